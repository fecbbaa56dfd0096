-- What a text says is within the limits of a file: every number has four bytes, and the counts fit.
-- Assumes nothing.
use Rattle.std.specs.Prelude.{None, Some}
use Prim.Native.Nat.{ℕ, suc, ◌+◌, ◌^◌, ◌≤◌, ◌<◌}
use Rattle.std.proofs.Common.{Option, None, Some}
use mathlib.Core.Path.{◌≡◌, refl}
use mathlib.Core.Bool.{Bool, true, false, cond, ◌&&◌, and-eq-true_iff, false≢true}
use mathlib.Core.Logic.{by_cases}
use mathlib.Core.List.{List, [], ◌∷◌, ◌++◌, map}
use native.Mathlib.Decide.{dec_lt, ℕ_discrete}
use native.Mathlib.Omega.{arith}
use borrow.Author.Tests.{leb-true, ltb-true, eq-eqb, le-leb}
use lib.Dec.{eqb, leb, ltb}
use lib.ListN.{length, get_or, drop, length-append, length-drop, get_or-append}
use lib.Seq.{get_or-append-add}
use Rattle.model.specs.Lists.{same_list}
use Rattle.block.specs.Bytes.{Each}
use Rattle.block.proofs.Each.{each_at, each_append}
use Rattle.taskfile.specs.File.{counts_in_range, scratch_in_range, header_in_range, header_numbers, EntryWithin, Within}
use Rattle.decimals.specs.Decimals.{all_digits, value}
use Rattle.assembling.specs.Words.{words_of}
use Rattle.assembling.specs.Drafts.{Draft, no_draft, is_number, all_numbers, header_word, header_right, takes_header, kind_of, room_for, takes_entry, takes, block_from, preempter_from, with_numbers, with_entry, with_kind, with_words, whole, wrong_line, drafted, wrong_in, draft_in, task_from}
use Rattle.assembling.specs.declared.Kind.{Kind}
use Rattle.assembling.specs.declared.Kind.TheVariants.{Basic, Armed, Preempting}
use Rattle.assembling.specs.Limits.{Small, Right, Drafted}
use Rattle.assembling.proofs.Drafting.{scratch-two, other-one}

pub right-none : Right no_draft
unfolding Each
right-none =
    record {
      numbers = tt;
      few = omega arith;
      gap = λ e. omega arith;
      lines = λ h. absurd (omega arith);
      scratch = λ h. absurd (omega arith);
      blocks = tt;
      preempters = tt;
      counts = (omega arith, omega arith);
    }

-- the numbers of a line are small
values-small : (ws : List (List ℕ)) → all_numbers ws ≡ true → Each Small (map value ws)
unfolding all_numbers is_number Each
values-small [] h = tt
values-small (w ∷ ws) h =
    let both = (and-eq-true_iff (is_number w) (all_numbers ws)).0 h in
    let most = leb-true (value w) 4294967295 ((and-eq-true_iff (all_digits w) (leb (value w) 4294967295)).0 both.0).1 in
    (omega arith, values-small ws both.1)

-- those behind the first
each-drop : (ns : List ℕ) → Each Small ns → Each Small (drop 1 ns)
unfolding Each
each-drop [] e = tt
each-drop (n ∷ ns) e = e.1

entry-within : (ns : List ℕ) → Each Small ns → 1 ≤ length ns → length ns ≤ 125 → EntryWithin (get_or ns 0 0) (drop 1 ns)
entry-within ns e h l = record { number = each_at Small ns 0 0 e h; count = omega (arith, length-drop 1 ns); numbers = each-drop ns e }

-- a header line

module _ (d : Draft) (r : Right d) (ns : List ℕ) (small : Each Small ns) (h : length d.numbers < 8) (right : header_right (length d.numbers) ns ≡ true) where
  k : ℕ
  k = length d.numbers

  behind : (i : ℕ) → get_or (d.numbers ++ ns) (length d.numbers + i) 0 ≡ get_or ns i 0
  behind i = get_or-append-add d.numbers ns i 0

  -- the line of the scratch range
  module _ (six : length d.numbers ≡ 6) where
    two : length ns ≡ 2
    two = scratch-two (length d.numbers) ns six right

    ends : get_or ns 0 0 + get_or ns 1 0 ≤ 4294967296
    unfolding header_right
    ends = leb-true _ _ ((and-eq-true_iff (eqb (length ns) 2) _).0 (rw (eq-eqb (length d.numbers) 6 six) at right)).1

    range_at : get_or (d.numbers ++ ns) 6 0 + get_or (d.numbers ++ ns) 7 0 ≤ 4294967296
    range_at =
        let first : get_or (d.numbers ++ ns) 6 0 ≡ get_or ns 0 0 = rw six at (behind 0) in
        let second : get_or (d.numbers ++ ns) 7 0 ≡ get_or ns 1 0 = rw six at (behind 1) in
        omega (arith, ends)

  -- the line of S
  module _ (one : length d.numbers ≡ 1) where
    bounds : (1 ≤ get_or ns 0 0) × (get_or ns 0 0 ≤ 512)
    unfolding header_right
    bounds =
        let s : header_right 1 ns ≡ true = rw one at right in
        let both = (and-eq-true_iff (leb 1 (get_or ns 0 0)) (leb (get_or ns 0 0) 512)).0 ((and-eq-true_iff (eqb (length ns) 1) _).0 s).1 in
        (leb-true _ _ both.0, leb-true _ _ both.1)

    lines_at : (1 ≤ get_or (d.numbers ++ ns) 1 0) × (get_or (d.numbers ++ ns) 1 0 ≤ 512)
    lines_at =
        let here : get_or (d.numbers ++ ns) 1 0 ≡ get_or ns 0 0 = rw one at (behind 0) in
        (omega (arith, bounds.0), omega (arith, bounds.1))

  more : length (d.numbers ++ ns) ≡ length d.numbers + length ns
  more = length-append d.numbers ns

  one_more : (length d.numbers ≡ 6 → ⊥) → length ns ≡ 1
  one_more e = other-one (length d.numbers) ns e right

  lines-in : 1 < length (d.numbers ++ ns) → (1 ≤ get_or (d.numbers ++ ns) 1 0) × (get_or (d.numbers ++ ns) 1 0 ≤ 512)
  lines-in l =
      by_cases (dec_lt 1 (length d.numbers)) (λ i. rw (get_or-append d.numbers ns 0 1 i) (r.lines i))
      (λ i. lines_at (only i))
    where
      only : (1 < length d.numbers → ⊥) → length d.numbers ≡ 1
      only i = let count = one_more (λ e. i (omega arith)) in omega (arith, more)

  scratch-in : 7 < length (d.numbers ++ ns) → get_or (d.numbers ++ ns) 6 0 + get_or (d.numbers ++ ns) 7 0 ≤ 4294967296
  scratch-in l = by_cases (ℕ_discrete (length d.numbers) 6) range_at (λ e. absurd (short e))
    where
      short : (length d.numbers ≡ 6 → ⊥) → ⊥
      short e = let count = one_more e in r.gap (omega (arith, more))

  pub right-header : Right (with_numbers d ns)
  right-header =
      record {
        numbers = each_append Small d.numbers ns r.numbers small;
        few = by_cases (ℕ_discrete (length d.numbers) 6) (λ e. omega (arith, more, two e)) (λ e. omega (arith, more, one_more e));
        gap = λ g. by_cases (ℕ_discrete (length d.numbers) 6) (λ e. omega (arith, more, two e)) (λ e. e (omega (arith, more, one_more e)));
        lines = lines-in;
        scratch = scratch-in;
        blocks = r.blocks;
        preempters = r.preempters;
        counts = r.counts;
      }

-- a block's line

block_more : (d : Draft) (armed : Bool) (ns : List ℕ) → Right d → EntryWithin (get_or ns 0 0) (drop 1 ns) → (eqb (length d.preempters) 0 && ltb (length d.blocks) 64) ≡ true
    → Right (record { numbers = d.numbers; blocks = d.blocks ++ (block_from armed ns ∷ []); preempters = d.preempters })
unfolding Each
block_more d armed ns r within room =
    let below = ltb-true (length d.blocks) 64 ((and-eq-true_iff (eqb (length d.preempters) 0) (ltb (length d.blocks) 64)).0 room).1 in
    record {
      numbers = r.numbers;
      few = r.few;
      gap = r.gap;
      lines = r.lines;
      scratch = r.scratch;
      blocks = each_append (λ b. EntryWithin b.time b.reads) d.blocks (block_from armed ns ∷ []) r.blocks (within, tt);
      preempters = r.preempters;
      counts = (omega (arith, length-append d.blocks (block_from armed ns ∷ [])), r.counts.1);
    }

preempter-more : (d : Draft) (ns : List ℕ) → Right d → EntryWithin (get_or ns 0 0) (drop 1 ns) → (ltb 0 (length d.blocks) && ltb (length d.preempters) 32) ≡ true
    → Right (record { numbers = d.numbers; blocks = d.blocks; preempters = d.preempters ++ (preempter_from ns ∷ []) })
unfolding Each
preempter-more d ns r within room =
    let below = ltb-true (length d.preempters) 32 ((and-eq-true_iff (ltb 0 (length d.blocks)) (ltb (length d.preempters) 32)).0 room).1 in
    record {
      numbers = r.numbers;
      few = r.few;
      gap = r.gap;
      lines = r.lines;
      scratch = r.scratch;
      blocks = r.blocks;
      preempters = each_append (λ p. EntryWithin p.id p.reads) d.preempters (preempter_from ns ∷ []) r.preempters (within, tt);
      counts = (r.counts.0, omega (arith, length-append d.preempters (preempter_from ns ∷ [])));
    }

entry_more : (d : Draft) (kind : Kind) (ns : List ℕ) → Right d → EntryWithin (get_or ns 0 0) (drop 1 ns) → room_for kind (length d.blocks) (length d.preempters) ≡ true
    → Right (with_entry d kind ns)
unfolding room_for with_entry
entry_more d Basic ns r w room = block_more d false ns r w room
entry_more d Armed ns r w room = block_more d true ns r w room
entry_more d Preempting ns r w room = preempter-more d ns r w room

right-entry : (d : Draft) (kind : Option Kind) (ns : List ℕ) → Right d → Each Small ns → takes_entry (length d.blocks) (length d.preempters) kind ns ≡ true → Right (with_kind d kind ns)
right-entry d None ns r small h = absurd (false≢true h)
right-entry d (Some kind) ns r small h =
    let some = (and-eq-true_iff (leb 1 (length ns)) _).0 h in
    let few = (and-eq-true_iff (leb (length ns) 125) _).0 some.1 in
    entry_more d kind ns r (entry-within ns small (leb-true _ _ some.0) (leb-true _ _ few.0)) few.1

-- any line

pub right-more : (d : Draft) (words : List (List ℕ)) → Right d → takes d words ≡ true → Right (with_words d words)
unfolding takes with_words
right-more d [] r h = r
right-more d (w ∷ ws) r h = go (ltb (length d.numbers) 8) refl both.1
  where
    both : (all_numbers ws ≡ true) ×
        (cond (ltb (length d.numbers) 8) (takes_header (length d.numbers) w (map value ws)) (takes_entry (length d.blocks) (length d.preempters) (kind_of w) (map value ws)) ≡ true)
    both = (and-eq-true_iff (all_numbers ws) _).0 h

    go : (z : Bool) → ltb (length d.numbers) 8 ≡ z
        → cond z (takes_header (length d.numbers) w (map value ws)) (takes_entry (length d.blocks) (length d.preempters) (kind_of w) (map value ws)) ≡ true
        → Right (cond z (with_numbers d (map value ws)) (with_kind d (kind_of w) (map value ws)))
    go true e t = right-header d r (map value ws) (values-small ws both.0) (ltb-true _ 8 e) ((and-eq-true_iff (same_list w (header_word (length d.numbers))) _).0 t).1
    go false e t = right-entry d (kind_of w) (map value ws) r (values-small ws both.0) t

-- a text without a wrong line is whole and right

lines-drafted : (d : Draft) (i : ℕ) (ls : List (List ℕ)) → Right d → wrong_line d i ls ≡ None → Drafted (drafted d ls)
unfolding wrong_line drafted
lines-drafted d i [] r e = go (whole d) refl e
  where
    go : (z : Bool) → whole d ≡ z → cond z None (Some i) ≡ None → Drafted d
    go true w e =
        let both = (and-eq-true_iff (leb 8 (length d.numbers)) (ltb 0 (length d.blocks))).0 w in
        record { right = r; all = leb-true _ _ both.0; some = ltb-true _ _ both.1 }
    go false w e = let z : ◌≡◌ {A = ℕ} 0 1 = cc in absurd (omega arith)
lines-drafted d i (l ∷ ls) r e = go (takes d (words_of l)) refl e (λ t. lines-drafted (with_words d (words_of l)) (suc i) ls (right-more d (words_of l) r t))
  where
    go : (z : Bool) → takes d (words_of l) ≡ z → cond z (wrong_line (with_words d (words_of l)) (suc i) ls) (Some i) ≡ None
        → (takes d (words_of l) ≡ true → wrong_line (with_words d (words_of l)) (suc i) ls ≡ None → Drafted (drafted (with_words d (words_of l)) ls))
        → Drafted (drafted (with_words d (words_of l)) ls)
    go true t e f = f t e
    go false t e f = let z : ◌≡◌ {A = ℕ} 0 1 = cc in absurd (omega arith)

pub text-drafted : (text : List ℕ) → wrong_in text ≡ None → Drafted (draft_in text)
unfolding wrong_in draft_in
text-drafted text e = lines-drafted no_draft 0 _ right-none e

-- so its task is within the limits of a file
pub within-drafted : (d : Draft) → Drafted d → Within (task_from d)
unfolding task_from header_in_range counts_in_range scratch_in_range header_numbers Each
within-drafted d s =
    let r = s.right in
    let at : (i : ℕ) → i < 8 → get_or d.numbers i 0 < 2 ^ 32 = λ i h. each_at Small d.numbers i 0 r.numbers (omega (arith, s.all)) in
    let lines = r.lines (omega (arith, s.all)) in
    let n = length d.blocks in
    let m = length d.preempters in
    let l = get_or d.numbers 1 0 in
    record {
      in-range = rw (
        le-leb 1 n s.some,
        le-leb n 64 r.counts.0,
        le-leb m 32 r.counts.1,
        le-leb 1 l lines.0,
        le-leb l 512 lines.1,
        le-leb (get_or d.numbers 6 0 + get_or d.numbers 7 0) 4294967296 (r.scratch (omega (arith, s.all))),
      ) refl;
      numbers = omega (arith, at 0 (omega arith), at 2 (omega arith), at 3 (omega arith), at 4 (omega arith), at 5 (omega arith), at 6 (omega arith), at 7 (omega arith), r.counts.0, r.counts.1, lines.1);
      blocks = r.blocks;
      preempters = r.preempters;
    }
