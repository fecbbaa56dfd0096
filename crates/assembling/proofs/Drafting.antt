-- A draft with one line more: its numbers in the array, and its block in the buffer.
-- Assumes nothing.
use Prim.Native.Nat.{ℕ, suc, ◌+◌, ◌-◌, ◌*◌, ◌≤◌, ◌<◌}
use Rattle.std.specs.Option.{is_some}
use Rattle.std.proofs.Common.{Option, None, Some}
use mathlib.Core.Path.{◌≡◌, refl, sym, ap, ap₂, ◌∙◌}
use mathlib.Core.Bool.{Bool, true, false, cond, ◌&&◌, and-eq-true_iff, and-false, false≢true}
use mathlib.Core.List.{List, [], ◌∷◌, ◌++◌, map, map-append, append_assoc, append-nil}
use native.Mathlib.Decide.{dec_le}
use native.Mathlib.Omega.{arith}
use borrow.Author.Tests.{eqb-true, ltb-true, eq-eqb, ne_eqb, lt-leb, le-leb, lt-ltb, le-ltb}
use lib.Dec.{eqb, leb, ltb}
use lib.ListN.{length, get_or, set, take, drop, length-append, length-set, length-drop, length-map}
use lib.Seq.{take-suc-set, take_all}
use borrow.Rule.Slice.PartMut.{put_mid}
use Rattle.block.specs.Blocks.{numbered}
use Rattle.taskfile.specs.File.{basic_bytes, preempter_bytes}
use Rattle.writer.specs.Writing.{stored_reads}
use Rattle.writer.proofs.Laws.{appended-more}
use Rattle.assembling.specs.Drafts.{Draft, all_numbers, block_from, preempter_from, header_word, header_right, takes_header, kind_of, room_for, takes_entry, takes}
use Rattle.assembling.specs.Drafts.{with_numbers, with_entry, with_kind, with_words}
use Rattle.assembling.specs.Steps.{Knows, entry_named, names_of, Stored, TakesLine}
use Rattle.assembling.specs.declared.Kind.{Kind}
use Rattle.assembling.specs.declared.Kind.TheVariants.{Basic, Armed, Preempting}
use Rattle.assembling.specs.declared.Known.{Known}
use Rattle.model.specs.Lists.{same_list}
use Rattle.decimals.specs.Decimals.{value}

-- a list of one number, or of two, is these
one_number : (ns : List ℕ) → length ns ≡ 1 → ns ≡ get_or ns 0 0 ∷ []
one_number [] e = absurd (omega arith)
one_number (n ∷ []) e = refl
one_number (n ∷ m ∷ ns) e = absurd (omega arith)

two-numbers : (ns : List ℕ) → length ns ≡ 2 → ns ≡ get_or ns 0 0 ∷ get_or ns 1 0 ∷ []
two-numbers [] e = absurd (omega arith)
two-numbers (n ∷ []) e = absurd (omega arith)
two-numbers (n ∷ m ∷ []) e = refl
two-numbers (n ∷ m ∷ o ∷ ns) e = absurd (omega arith)

-- how many numbers a right header line has
pub scratch-two : (k : ℕ) (ns : List ℕ) → k ≡ 6 → header_right k ns ≡ true → length ns ≡ 2
unfolding header_right
scratch-two k ns e h = eqb-true _ _ ((and-eq-true_iff (eqb (length ns) 2) _).0 (rw (eq-eqb k 6 e) at h)).0

pub other-one : (k : ℕ) (ns : List ℕ) → (k ≡ 6 → ⊥) → header_right k ns ≡ true → length ns ≡ 1
unfolding header_right
other-one k ns e h = eqb-true _ _ ((and-eq-true_iff (eqb (length ns) 1) _).0 (rw (ne_eqb k 6 e) at h)).0

module _ (d : Draft) (k : Known) (knows : Knows d k) (ns : List ℕ) where
  pub knows-one : length ns ≡ 1 → k.given < 8
      → Knows (with_numbers d ns) (record { given = k.given + length ns; header = set k.header k.given (get_or ns 0 0); blocks = k.blocks; preempters = k.preempters })
  knows-one e h =
      let next : k.given + length ns ≡ suc k.given = omega arith in
      record {
        given = omega (arith, knows.given, length-append d.numbers ns);
        header = rw (next, take-suc-set k.header k.given (get_or ns 0 0) (omega (arith, knows.room)), knows.header) (ap (λ (l : List ℕ). d.numbers ++ l) (sym (one_number ns e)));
        room = length-set k.header k.given (get_or ns 0 0) ∙ knows.room;
        blocks = knows.blocks;
        preempters = knows.preempters;
      }

  pub knows-two : length ns ≡ 2 → k.given ≡ 6
      → Knows (with_numbers d ns) (record { given = k.given + length ns; header = set (set k.header k.given (get_or ns 0 0)) 7 (get_or ns 1 0); blocks = k.blocks; preempters = k.preempters })
  knows-two e h =
      let first = set k.header k.given (get_or ns 0 0) in
      let long : length first ≡ 8 = length-set k.header k.given (get_or ns 0 0) ∙ knows.room in
      let six : take 7 first ≡ d.numbers ++ (get_or ns 0 0 ∷ []) =
      rw h (take-suc-set k.header 6 (get_or ns 0 0) (omega (arith, knows.room)) ∙ ap (λ (l : List ℕ). l ++ (get_or ns 0 0 ∷ [])) (rw h at knows.header)) in
      let eight : k.given + length ns ≡ 8 = omega arith in
      record {
        given = omega (arith, knows.given, length-append d.numbers ns);
        header =
            ap (λ (n : ℕ). take n (set first 7 (get_or ns 1 0))) eight ∙ take-suc-set first 7 (get_or ns 1 0) (omega arith) ∙ ap (λ (l : List ℕ). l ++ (get_or ns 1 0 ∷ [])) six ∙ append_assoc d.numbers (get_or ns 0 0 ∷ []) (get_or ns 1 0 ∷ []) ∙
            ap (λ (l : List ℕ). d.numbers ++ l) (sym (two-numbers ns e));
        room = length-set first 7 (get_or ns 1 0) ∙ long;
        blocks = knows.blocks;
        preempters = knows.preempters;
      }

-- the numbers behind the first
pub behind-first : (ns : List ℕ) → take (length ns - 1) (drop 1 ns) ≡ drop 1 ns
behind-first ns = take_all (length ns - 1) (drop 1 ns) (omega (arith, length-drop 1 ns))

-- what a block is stored with, and what a line says of it
pub reads-behind : (ns block : List ℕ) → stored_reads block (length (take (length ns - 1) (drop 1 ns))) ≡ take (length ns - 1) (drop 1 ns)
    → stored_reads block (length ns - 1) ≡ drop 1 ns
reads-behind ns block e =
    let long : length (drop 1 ns) ≡ length ns - 1 = length-drop 1 ns in
    rw (behind-first ns, long) at e

-- one block more

nothing : {A : Type 0} (l : List A) → length l ≡ 0 → l ≡ []
nothing [] e = refl
nothing (x ∷ xs) e = absurd (omega arith)

no-preempters : (d : Draft) → (eqb (length d.preempters) 0 && ltb (length d.blocks) 64) ≡ true → d.preempters ≡ []
no-preempters d h = nothing d.preempters (eqb-true _ _ ((and-eq-true_iff (eqb (length d.preempters) 0) _).0 h).0)

names_more : (d : Draft) (kind : Kind) (ns : List ℕ) → room_for kind (length d.blocks) (length d.preempters) ≡ true
    → names_of (with_entry d kind ns) ≡ names_of d ++ (entry_named kind ns ∷ [])
unfolding room_for with_entry entry_named
names_more d Basic ns h =
    rw (no-preempters d h, append-nil, append-nil, map-append) refl
names_more d Armed ns h =
    rw (no-preempters d h, append-nil, append-nil, map-append) refl
names_more d Preempting ns h =
    rw (map-append) (sym (append_assoc (map basic_bytes d.blocks) (map preempter_bytes d.preempters) _))

pub count-names : (d : Draft) → length (names_of d) ≡ length d.blocks + length d.preempters
count-names d =
    length-append (map basic_bytes d.blocks) (map preempter_bytes d.preempters) ∙
    ap₂ ◌+◌ (length-map d.blocks basic_bytes) (length-map d.preempters preempter_bytes)

pub entry_more : (d : Draft) (kind : Kind) (ns file part : List ℕ) (s w : ℕ) → room_for kind (length d.blocks) (length d.preempters) ≡ true
    → s ≡ 512 * (1 + (length d.blocks + length d.preempters)) → s ≤ length file → length part ≡ 512 → Stored d file
    → take 508 part ≡ numbered (1 + (length d.blocks + length d.preempters)) (entry_named kind ns)
    → Stored (with_entry d kind ns) (put_mid s w file part)
entry_more d kind ns file part s w room e h long stored p =
    rw (names_more d kind ns room)
    (appended-more 0 s w (names_of d) (entry_named kind ns) [] file part (omega (arith, count-names d)) h (omega arith) stored (rw (count-names d) p))

-- what room says of the counts

room-block : (b p : ℕ) → (eqb p 0 && ltb b 64) ≡ true → (p ≡ 0) × (b < 64)
room-block b p h = let both = (and-eq-true_iff (eqb p 0) (ltb b 64)).0 h in (eqb-true p 0 both.0, ltb-true b 64 both.1)

room-preempter : (b p : ℕ) → (ltb 0 b && ltb p 32) ≡ true → (0 < b) × (p < 32)
room-preempter b p h = let both = (and-eq-true_iff (ltb 0 b) (ltb p 32)).0 h in (ltb-true 0 b both.0, ltb-true p 32 both.1)

pub room-left : (kind : Kind) (b p : ℕ) → room_for kind b p ≡ true → b ≤ 64 → p ≤ 32 → b + p ≤ 95
unfolding room_for
room-left Basic b p h k l = omega (arith, room-block b p h)
room-left Armed b p h k l = omega (arith, room-block b p h)
room-left Preempting b p h k l = omega (arith, room-preempter b p h)

-- and what is counted

abbrev Counts : Known → Kind → Known → Type 0
Counts k kind r = ((d : Draft) (ns : List ℕ) → Knows d k → Knows (with_entry d kind ns) r) × (r.blocks ≤ 64) × (r.preempters ≤ 32)

counts-block : (k : Known) (kind : Kind) (armed : Bool) → ((d : Draft) (ns : List ℕ) → with_entry d kind ns ≡ record { numbers = d.numbers; blocks = d.blocks ++ (block_from armed ns ∷ []); preempters = d.preempters })
    → k.blocks < 64 → k.preempters ≤ 32 → Counts k kind (record { given = k.given; header = k.header; blocks = k.blocks + 1; preempters = k.preempters })
counts-block k kind armed e h l = (
  λ d ns knows. rw (e d ns)
      (record {
        given = knows.given;
        header = knows.header;
        room = knows.room;
        blocks = omega (arith, knows.blocks, length-append d.blocks (block_from armed ns ∷ []));
        preempters = knows.preempters;
      }),
  omega arith,
  l,
)

pub counts-basic : (k : Known) → room_for Basic k.blocks k.preempters ≡ true → k.preempters ≤ 32
    → Counts k Basic (record { given = k.given; header = k.header; blocks = k.blocks + 1; preempters = k.preempters })
unfolding room_for with_entry
counts-basic k h l = counts-block k Basic false (λ d ns. refl) (room-block k.blocks k.preempters h).1 l

pub counts-armed : (k : Known) → room_for Armed k.blocks k.preempters ≡ true → k.preempters ≤ 32
    → Counts k Armed (record { given = k.given; header = k.header; blocks = k.blocks + 1; preempters = k.preempters })
unfolding room_for with_entry
counts-armed k h l = counts-block k Armed true (λ d ns. refl) (room-block k.blocks k.preempters h).1 l

pub counts-preempter : (k : Known) → room_for Preempting k.blocks k.preempters ≡ true → k.blocks ≤ 64
    → Counts k Preempting (record { given = k.given; header = k.header; blocks = k.blocks; preempters = k.preempters + 1 })
unfolding room_for with_entry
counts-preempter k h l = (
  λ d ns knows. record {
    given = knows.given;
    header = knows.header;
    room = knows.room;
    blocks = knows.blocks;
    preempters = omega (arith, knows.preempters, length-append d.preempters (preempter_from ns ∷ []));
  },
  l,
  omega (arith, (room-preempter k.blocks k.preempters h).1),
)

-- what the code makes of a line

pub empty-line : (d : Draft) (k : Known) (words : List (List ℕ)) (file : List ℕ) → words ≡ [] → Knows d k → Stored d file
    → TakesLine d words (Some k) file
unfolding takes with_words
empty-line d k words file e knows stored = rw e (record { right = refl; known = λ r p. let is : k ≡ r = cc in rw (← is) (knows, stored) })

module _ (d : Draft) (k : Known) (knows : Knows d k) (words : List (List ℕ)) (w : List ℕ) (ws : List (List ℕ)) (split : words ≡ w ∷ ws) where
  -- a line of too many numbers is no header's and no block's
  too_many : (ns : List ℕ) → 125 < length ns
      → cond (ltb (length d.numbers) 8) (takes_header (length d.numbers) w ns) (takes_entry (length d.blocks) (length d.preempters) (kind_of w) ns) ≡ false
  unfolding header_right
  too_many ns h = go (ltb (length d.numbers) 8) (eqb (length d.numbers) 6)
    where
      one : eqb (length ns) 1 ≡ false
      one = ne_eqb (length ns) 1 (λ (e : length ns ≡ 1). omega arith)

      two : eqb (length ns) 2 ≡ false
      two = ne_eqb (length ns) 2 (λ (e : length ns ≡ 2). omega arith)

      few : leb (length ns) 125 ≡ false
      few = lt-leb _ _ h

      go : (z six : Bool)
          → cond z (same_list w (header_word (length d.numbers)) && cond six (eqb (length ns) 2 && leb (get_or ns 0 0 + get_or ns 1 0) 4294967296) (eqb (length ns) 1 && cond (eqb (length d.numbers) 1) (leb 1 (get_or ns 0 0) && leb (get_or ns 0 0) 512) true))
          (takes_entry (length d.blocks) (length d.preempters) (kind_of w) ns)
          ≡ false
      go true true = rw (two, and-false)
      go true false = rw (one, and-false)
      go false six = entry (kind_of w)
        where
          entry : (kind : Option Kind) → takes_entry (length d.blocks) (length d.preempters) kind ns ≡ false
          entry None = refl
          entry (Some kind) = rw (few, and-false)

  pub wrong-numbers : (file : List ℕ) → (all_numbers ws && leb (length ws) 125) ≡ false → TakesLine d words None file
  unfolding takes
  wrong-numbers file h = record { right = sym (rw split (go (all_numbers ws) (dec_le (length ws) 125) h)); known = λ r p. let z : ◌≡◌ {A = ℕ} 0 1 = cc in absurd (omega arith) }
    where
      go : (a : Bool) → Dec (length ws ≤ 125) → (a && leb (length ws) 125) ≡ false
          → (a && cond (ltb (length d.numbers) 8) (takes_header (length d.numbers) w (map value ws)) (takes_entry (length d.blocks) (length d.preempters) (kind_of w) (map value ws))) ≡ false
      go false l e = refl
      go true (yes l) e = absurd (false≢true (sym e ∙ le-leb (length ws) 125 l))
      go true (no l) e = too_many (map value ws) (rw length-map (omega arith))

  module _ (right : (all_numbers ws && leb (length ws) 125) ≡ true) (ns : List ℕ) (same : ns ≡ map value ws) (r : Option Known) (file : List ℕ) where
    numbers : all_numbers ws ≡ true
    numbers = ((and-eq-true_iff (all_numbers ws) (leb (length ws) 125)).0 right).0

    pub header-line : k.given < 8 → Stored d file → is_some r ≡ takes_header k.given w ns → ((t : Known) → r ≡ Some t → Knows (with_numbers d ns) t) → TakesLine d words r file
    unfolding takes with_words
    header-line h stored e f =
        let phase : ltb (length d.numbers) 8 ≡ true = lt-ltb (length d.numbers) 8 (omega (arith, knows.given)) in
        rw (split)
        (record {
          right = rw (numbers, phase, ← same, ← knows.given) e;
          known = λ t p. rw (phase, ← same) (f t p, stored);
        })

    pub entry-line : 8 ≤ k.given → is_some r ≡ takes_entry k.blocks k.preempters (kind_of w) ns
        → ((t : Known) → r ≡ Some t → Knows (with_kind d (kind_of w) ns) t × Stored (with_kind d (kind_of w) ns) file) → TakesLine d words r file
    unfolding takes with_words
    entry-line h e f =
        let phase : ltb (length d.numbers) 8 ≡ false = le-ltb (length d.numbers) 8 (omega (arith, knows.given)) in
        rw (split)
        (record {
          right = rw (numbers, phase, ← same, ← knows.blocks, ← knows.preempters) e;
          known = λ t p. rw (phase, ← same) (f t p);
        })
