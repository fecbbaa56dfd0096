-- A line in the pieces in which it is put: its word with its first number, the other numbers, and the line feed.
-- Assumes nothing.
use Prim.Native.Nat.{ℕ, ◌+◌, suc, ◌<◌}
use mathlib.Core.Path.{◌≡◌, ap, ◌∙◌}
use mathlib.Core.List.{List, [], ◌∷◌, ◌++◌, append-nil, append_assoc}
use lib.ListN.{length, get_or, drop, length-append}
use lib.Seq.{drop-cons}
use Rattle.model.specs.declared.Header.{Header}
use Rattle.decimals.specs.Decimals.{spelled}
use Rattle.showing.specs.Puts.{limits_text}
use Rattle.showing.specs.Text.{space, line_feed, task_word, lines_word, limit_word, sampler_word, reload_word, switch_word, scratch_word, spaced, line_text, header_text}

module _ (word : List ℕ) (n : ℕ) (ns : List ℕ) where
  pub line-begins : line_text word (n ∷ ns) ≡ (word ++ (space ∷ spelled n)) ++ (spaced ns ++ (line_feed ∷ []))
  unfolding line_text spaced
  line-begins = simp append_assoc

  pub line-length : length (line_text word (n ∷ ns)) ≡ length (word ++ (space ∷ spelled n)) + (length (spaced ns) + 1)
  line-length = ap length line-begins ∙ simp length-append

-- the last number
pub one-spaced : (n : ℕ) → spaced (n ∷ []) ≡ space ∷ spelled n
unfolding spaced
one-spaced n = ap (λ (l : List ℕ). space ∷ l) (append-nil (spelled n))

-- the numbers from one on
pub spaced-next : (ns : List ℕ) (j : ℕ) → j < length ns → spaced (drop j ns) ≡ (space ∷ spelled (get_or ns j 0)) ++ spaced (drop (suc j) ns)
unfolding spaced
spaced-next ns j h = rw (drop-cons ns j 0 h)

-- a header's first four lines, and the other three
module _ (h : Header) where
  pub limits-length :
      length (limits_text h) ≡
      length (line_text task_word (h.id ∷ [])) +
      (length (line_text lines_word (h.line_count ∷ [])) +
      (length (line_text limit_word (h.limit ∷ [])) + length (line_text sampler_word (h.second_limit ∷ []))))
  unfolding limits_text
  limits-length = simp length-append

  pub header-begins :
      header_text h ≡
      limits_text h ++
      (line_text reload_word (h.reload ∷ []) ++
      (line_text switch_word (h.switch ∷ []) ++ line_text scratch_word (h.scratch.first ∷ h.scratch.count ∷ [])))
  unfolding header_text limits_text
  header-begins = simp append_assoc

  pub header-length :
      length (header_text h) ≡
      length (limits_text h) +
      (length (line_text reload_word (h.reload ∷ [])) +
      (length (line_text switch_word (h.switch ∷ [])) + length (line_text scratch_word (h.scratch.first ∷ h.scratch.count ∷ []))))
  header-length = ap length header-begins ∙ simp length-append
