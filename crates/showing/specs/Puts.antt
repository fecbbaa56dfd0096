-- A text put into an output from a place on, and the place behind it. Assumes nothing.
use Rattle.std.specs.Prelude.{ℕ, ◌+◌, ◌≤◌, ◌≡◌, List, [], ◌∷◌, ◌++◌, length}
use Rattle.model.specs.declared.Header.{Header}
use Rattle.showing.specs.Output.{laid}
use Rattle.showing.specs.Text.{task_word, lines_word, limit_word, sampler_word, line_text}

-- no place of a text that begins here is too far for a number
abbrev pub Room : ℕ → List ℕ → Type 0
Room at text = at + length text ≤ 4294967296

-- what is in the output then, and the place behind the text
pub record Put (out : List ℕ) (at : ℕ) (text exit : List ℕ) (r : ℕ) : Type 0 where
  pub bytes : exit ≡ laid out at text
  pub place : r ≡ at + length text

-- the first four lines of a header
unfoldable pub limits_text : Header → List ℕ
limits_text h =
    line_text task_word (h.id ∷ []) ++
    (line_text lines_word (h.line_count ∷ []) ++
    (line_text limit_word (h.limit ∷ []) ++
    line_text sampler_word (h.second_limit ∷ [])))
