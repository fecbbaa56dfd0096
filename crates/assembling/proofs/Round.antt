-- The text of a task within the limits has no wrong line, and says that task: line after line, the draft grows by what the line was written of.
-- Assumes nothing.
use Rattle.std.specs.Prelude.{None, Some}
use Prim.Native.Nat.{ℕ, suc, ◌+◌, ◌≤◌, ◌<◌}
use Rattle.std.proofs.Common.{Some}
use mathlib.Core.Path.{◌≡◌, refl, sym, ap, subst, ◌∙◌}
use mathlib.Core.Bool.{Bool, true, false, cond, ◌&&◌, and-eq-true_iff}
use mathlib.Core.List.{List, [], ◌∷◌, ◌++◌, map, append_assoc, append-nil}
use native.Mathlib.Nat.{add-suc, add-zero, suc-add}
use native.Mathlib.Omega.{arith}
use borrow.Author.Tests.{leb-true, le-leb, lt-ltb, le-ltb}
use lib.Dec.{eqb, leb, ltb}
use lib.ListN.{length, length-append}
use Rattle.model.specs.Task.{Block, Preempter, Task, block_count, line_count}
use Rattle.model.specs.Lists.{same_list}
use Rattle.model.specs.declared.Header.{Header}
use Rattle.block.specs.Bytes.{Each}
use Rattle.taskfile.specs.File.{counts_in_range, scratch_in_range, header_in_range, header_numbers, EntryWithin, Within}
use Rattle.taskfile.proofs.Accepted.{in-range}
use Rattle.decimals.specs.Decimals.{spelled}
use Rattle.showing.specs.Text.{line_text, task_word, lines_word, limit_word, sampler_word, reload_word, switch_word, scratch_word, block_word, armed_word, preempter_word, header_text, block_text, blocks_text, preempter_text, preempters_text, text_of}
use Rattle.assembling.specs.Words.{is_blank, is_hash, is_word_byte, is_line_byte, lines_of}
use Rattle.assembling.specs.Drafts.{Draft, no_draft, header_word, header_right, kind_of, room_for, takes_entry, takes, with_numbers, with_entry, with_words, wrong_line, drafted, wrong_in, draft_in}
use Rattle.assembling.specs.Steps.{all_are}
use Rattle.assembling.specs.Limits.{Small}
use Rattle.assembling.specs.declared.Kind.{Kind}
use Rattle.assembling.specs.declared.Kind.TheVariants.{Basic, Armed, Preempting}
use Rattle.assembling.proofs.Written.{line_read, words-read, numbers-read, spelled-values}

-- reading a text from one draft comes to reading what is left of it from another
record Goes (d e : Draft) (i j : ℕ) (text rest : List ℕ) : Type 0 where
  place : wrong_line d i (lines_of text) ≡ wrong_line e j (lines_of rest)
  known : drafted d (lines_of text) ≡ drafted e (lines_of rest)

goes-both : {d e f : Draft} {i j k : ℕ} {text mid rest : List ℕ} → Goes d e i j text mid → Goes e f j k mid rest → Goes d f i k text rest
goes-both a b = record { place = a.place ∙ b.place; known = a.known ∙ b.known }

-- the words

record IsWord (w : List ℕ) : Type 0 where
  some : 0 < length w
  word : all_are is_word_byte w ≡ true
  line : all_are is_line_byte w ≡ true

abbrev Words : Type 0
Words = IsWord task_word × IsWord lines_word × IsWord limit_word × IsWord sampler_word × IsWord reload_word × IsWord switch_word × IsWord scratch_word × IsWord block_word × IsWord armed_word × IsWord preempter_word

words : Words
unfolding all_are is_word_byte is_blank is_hash is_line_byte
words = (
  record { some = omega arith; word = refl; line = refl },
  record { some = omega arith; word = refl; line = refl },
  record { some = omega arith; word = refl; line = refl },
  record { some = omega arith; word = refl; line = refl },
  record { some = omega arith; word = refl; line = refl },
  record { some = omega arith; word = refl; line = refl },
  record { some = omega arith; word = refl; line = refl },
  record { some = omega arith; word = refl; line = refl },
  record { some = omega arith; word = refl; line = refl },
  record { some = omega arith; word = refl; line = refl },
)

-- a line

module _ (d : Draft) (i : ℕ) (w ns rest : List ℕ) (is : IsWord w) (small : Each Small ns) where
  goes-line : takes d (w ∷ map spelled ns) ≡ true → Goes d (with_words d (w ∷ map spelled ns)) i (suc i) (line_text w ns ++ rest) rest
  unfolding wrong_line drafted
  goes-line t =
      let lines = line_read w ns rest is.some is.word is.line small in
      let read = words-read w ns rest is.some is.word is.line small in
      let next = wrong_line (with_words d (w ∷ map spelled ns)) (suc i) (lines_of rest) in
      record {
        place =
            ap (wrong_line d i) lines ∙ ap (λ (ws : List (List ℕ)). cond (takes d ws) (wrong_line (with_words d ws) (suc i) (lines_of rest)) (Some i)) read ∙
            ap (λ (b : Bool). cond b next (Some i)) t;
        known = ap (drafted d) lines ∙ ap (λ (ws : List (List ℕ)). drafted (with_words d ws) (lines_of rest)) read;
      }

  goes-header : length d.numbers < 8 → same_list w (header_word (length d.numbers)) ≡ true → header_right (length d.numbers) ns ≡ true
      → Goes d (with_numbers d ns) i (suc i) (line_text w ns ++ rest) rest
  unfolding takes with_words
  goes-header h s r =
      let phase = lt-ltb (length d.numbers) 8 h in
      let numbers = numbers-read w ns rest is.some is.word is.line small in
      let values = spelled-values ns small in
      rw (phase, values) at (goes-line (rw (numbers, phase, values, s, r) refl))

  goes-entry : (kind : Kind) → 8 ≤ length d.numbers → kind_of w ≡ Some kind → takes_entry (length d.blocks) (length d.preempters) (Some kind) ns ≡ true
      → Goes d (with_entry d kind ns) i (suc i) (line_text w ns ++ rest) rest
  unfolding takes with_words
  goes-entry kind h s r =
      let phase = le-ltb (length d.numbers) 8 h in
      let numbers = numbers-read w ns rest is.some is.word is.line small in
      let values = spelled-values ns small in
      rw (phase, values, s) at (goes-line (rw (numbers, phase, values, s) r))

-- the header

module _ (h : Header) (lines : (1 ≤ h.line_count) × (h.line_count ≤ 512)) (range : h.scratch.first + h.scratch.count ≤ 4294967296)
    (small : Each Small (h.id ∷ h.line_count ∷ h.limit ∷ h.second_limit ∷ h.reload ∷ h.switch ∷ h.scratch.first ∷ h.scratch.count ∷ [])) where
  abbrev headed : Draft
  headed =
      record {
        numbers = h.id ∷ h.line_count ∷ h.limit ∷ h.second_limit ∷ h.reload ∷ h.switch ∷ h.scratch.first ∷ h.scratch.count ∷ [];
        blocks = [];
        preempters = [];
      }

  -- with these numbers of the header
  abbrev known : List ℕ → Draft
  known ns = record { numbers = ns; blocks = []; preempters = [] }

  goes-head : (rest : List ℕ) → Goes no_draft headed 0 7 (header_text h ++ rest) rest
  unfolding header_text same_list header_right Each
  goes-head rest =
      let s = small in
      simp append_assoc
      (goes-both (goes-header (known []) 0 task_word (h.id ∷ []) _ words.0 (s.0, tt) (omega arith) refl refl)
      (goes-both (goes-header (known (h.id ∷ [])) 1 lines_word (h.line_count ∷ []) _ words.1 (s.1.0, tt) (omega arith) refl (rw (le-leb _ _ lines.0, le-leb _ _ lines.1) refl))
      (goes-both (goes-header (known (h.id ∷ h.line_count ∷ [])) 2 limit_word (h.limit ∷ []) _ words.2 (s.1.1.0, tt) (omega arith) refl refl)
      (goes-both (goes-header (known (h.id ∷ h.line_count ∷ h.limit ∷ [])) 3 sampler_word (h.second_limit ∷ []) _ words.3 (s.1.1.1.0, tt) (omega arith) refl refl)
      (goes-both (goes-header (known (h.id ∷ h.line_count ∷ h.limit ∷ h.second_limit ∷ [])) 4 reload_word (h.reload ∷ []) _ words.4 (s.1.1.1.1.0, tt) (omega arith) refl refl)
      (goes-both (goes-header (known (h.id ∷ h.line_count ∷ h.limit ∷ h.second_limit ∷ h.reload ∷ [])) 5 switch_word (h.switch ∷ []) _ words.5 (s.1.1.1.1.1.0, tt) (omega arith) refl refl)
      (goes-header (known (h.id ∷ h.line_count ∷ h.limit ∷ h.second_limit ∷ h.reload ∷ h.switch ∷ [])) 6 scratch_word (h.scratch.first ∷ h.scratch.count ∷ []) rest words.6 (s.1.1.1.1.1.1.0, (s.1.1.1.1.1.1.1.0, tt)) (omega arith) refl (rw (le-leb _ _ range) refl))))))))

-- the basic blocks

abbrev Blocked : Draft → List Block → Draft
Blocked d bs = record { numbers = d.numbers; blocks = d.blocks ++ bs; preempters = d.preempters }

entry-small : (x : ℕ) (reads : List ℕ) → EntryWithin x reads → Each Small (x ∷ reads)
unfolding Each
entry-small x reads w = (w.number, w.numbers)

-- a block's line has at most 125 numbers
entry-long : (x : ℕ) (reads : List ℕ) (room : Bool) → EntryWithin x reads → room ≡ true → (leb 1 (length (x ∷ reads)) && (leb (length (x ∷ reads)) 125 && room)) ≡ true
entry-long x reads room w e = rw (le-leb 1 (length (x ∷ reads)) (omega arith), le-leb (length (x ∷ reads)) 125 (omega (arith, w.count)), e) refl

goes-block : (d : Draft) (i : ℕ) (b : Block) (rest : List ℕ) → EntryWithin b.time b.reads → 8 ≤ length d.numbers → d.preempters ≡ [] → length d.blocks < 64
    → Goes d (Blocked d (b ∷ [])) i (suc i) (block_text b ++ rest) rest
unfolding block_text kind_of same_list room_for with_entry
goes-block d i b rest w h none few = go b.armed refl
  where
    room : (eqb (length d.preempters) 0 && ltb (length d.blocks) 64) ≡ true
    room = rw (none, lt-ltb (length d.blocks) 64 few) refl

    small : Each Small (b.time ∷ b.reads)
    small = entry-small b.time b.reads w

    same : (armed : Bool) → b.armed ≡ armed → Blocked d (record { time = b.time; armed = armed; reads = b.reads } ∷ []) ≡ Blocked d (b ∷ [])
    same armed e = ap (λ (a : Bool). Blocked d (record { time = b.time; armed = a; reads = b.reads } ∷ [])) (sym e)

    go : (armed : Bool) → b.armed ≡ armed → Goes d (Blocked d (b ∷ [])) i (suc i) (line_text (cond armed armed_word block_word) (b.time ∷ b.reads) ++ rest) rest
    go true e =
        subst (λ (f : Draft). Goes d f i (suc i) (line_text armed_word (b.time ∷ b.reads) ++ rest) rest) (same true e)
        (goes-entry d i armed_word (b.time ∷ b.reads) rest words.8 small Armed h refl (entry-long b.time b.reads _ w room))
    go false e =
        subst (λ (f : Draft). Goes d f i (suc i) (line_text block_word (b.time ∷ b.reads) ++ rest) rest) (same false e)
        (goes-entry d i block_word (b.time ∷ b.reads) rest words.7 small Basic h refl (entry-long b.time b.reads _ w room))

goes-blocks : (d : Draft) (i : ℕ) (bs : List Block) (rest : List ℕ) → Each (λ b. EntryWithin b.time b.reads) bs → 8 ≤ length d.numbers → d.preempters ≡ []
    → length d.blocks + length bs ≤ 64 → Goes d (Blocked d bs) i (i + length bs) (blocks_text bs ++ rest) rest
unfolding blocks_text Each
goes-blocks d i [] rest w h none few = rw (append-nil, add-zero) (record { place = refl; known = refl })
goes-blocks d i (b ∷ bs) rest w h none few =
    let one = goes-block d i b (blocks_text bs ++ rest) w.0 h none (omega arith) in
    let others = goes-blocks (Blocked d (b ∷ [])) (suc i) bs rest w.1 h none (omega (arith, length-append d.blocks (b ∷ []))) in
    rw (append_assoc (block_text b) (blocks_text bs) rest, add-suc, ← suc-add) (goes-both one (rw (append_assoc d.blocks (b ∷ []) bs) at others))

-- the preempters

abbrev Preempted : Draft → List Preempter → Draft
Preempted d ps = record { numbers = d.numbers; blocks = d.blocks; preempters = d.preempters ++ ps }

goes-preempter : (d : Draft) (i : ℕ) (p : Preempter) (rest : List ℕ) → EntryWithin p.id p.reads → 8 ≤ length d.numbers → 0 < length d.blocks → length d.preempters < 32
    → Goes d (Preempted d (p ∷ [])) i (suc i) (preempter_text p ++ rest) rest
unfolding preempter_text kind_of same_list room_for with_entry
goes-preempter d i p rest w h some few =
    goes-entry d i preempter_word (p.id ∷ p.reads) rest words.9 (entry-small p.id p.reads w) Preempting h refl
    (entry-long p.id p.reads _ w (rw (lt-ltb 0 (length d.blocks) some, lt-ltb (length d.preempters) 32 few) refl))

goes-preempters : (d : Draft) (i : ℕ) (ps : List Preempter) (rest : List ℕ) → Each (λ p. EntryWithin p.id p.reads) ps → 8 ≤ length d.numbers → 0 < length d.blocks
    → length d.preempters + length ps ≤ 32 → Goes d (Preempted d ps) i (i + length ps) (preempters_text ps ++ rest) rest
unfolding preempters_text Each
goes-preempters d i [] rest w h some few = rw (append-nil, add-zero) (record { place = refl; known = refl })
goes-preempters d i (p ∷ ps) rest w h some few =
    let one = goes-preempter d i p (preempters_text ps ++ rest) w.0 h some (omega arith) in
    let others = goes-preempters (Preempted d (p ∷ [])) (suc i) ps rest w.1 h some (omega (arith, length-append d.preempters (p ∷ []))) in
    rw (append_assoc (preempter_text p) (preempters_text ps) rest, add-suc, ← suc-add) (goes-both one (rw (append_assoc d.preempters (p ∷ []) ps) at others))

-- all of it

abbrev draft_of : Task → Draft
draft_of t =
    let h = t.header in
    record {
      numbers = h.id ∷ h.line_count ∷ h.limit ∷ h.second_limit ∷ h.reload ∷ h.switch ∷ h.scratch.first ∷ h.scratch.count ∷ [];
      blocks = t.blocks;
      preempters = t.preempters;
    }

module _ (t : Task) (w : Within t) where
  header-small : Each Small (draft_of t).numbers
  unfolding Each header_numbers
  header-small = let numbers = w.numbers in omega arith

  range : t.header.scratch.first + t.header.scratch.count ≤ 4294967296
  unfolding header_in_range scratch_in_range
  range = leb-true _ _ ((and-eq-true_iff (counts_in_range (block_count t) (length t.preempters) (line_count t)) _).0 w.in-range).1

  goes-text : (k : ℕ) × Goes no_draft (draft_of t) 0 k (text_of t) []
  unfolding text_of
  goes-text =
      let counts = in-range t w.in-range in
      let head = goes-head t.header (counts.3, counts.4) range header-small (blocks_text t.blocks ++ preempters_text t.preempters) in
      let basic = goes-blocks (headed t.header (counts.3, counts.4) range header-small) 7 t.blocks (preempters_text t.preempters) w.blocks (omega arith) refl (omega (arith, counts.1)) in
      let last = goes-preempters (Blocked (headed t.header (counts.3, counts.4) range header-small) t.blocks) (7 + length t.blocks) t.preempters [] w.preempters (omega arith) (omega (arith, counts.0)) (omega (arith, counts.2)) in
      (_, goes-both head (goes-both basic (rw append-nil at last)))

  pub text-known : draft_in (text_of t) ≡ draft_of t
  unfolding draft_in drafted lines_of
  text-known = goes-text.1.known

  pub text-right : wrong_in (text_of t) ≡ None
  unfolding wrong_in wrong_line lines_of
  text-right = goes-text.1.place ∙ rw (lt-ltb 0 (length t.blocks) (omega (arith, (in-range t w.in-range).0))) refl
