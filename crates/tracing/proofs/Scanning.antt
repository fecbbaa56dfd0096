-- A scanned text is told as its lines tell it: by induction on the bytes, with the line that is begun and the lines that it and the bytes left
-- come to.
-- Assumes nothing.
use Rattle.std.specs.Prelude.{None, Option, Some}
use Prim.Native.Nat.{ℕ, suc, ◌+◌, ◌-◌, ◌^◌, ◌<◌}
use mathlib.Core.Path.{◌≡◌, refl, sym, ap, ◌∙◌}
use mathlib.Core.Bool.{Bool, true, false, cond}
use mathlib.Core.List.{List, [], ◌∷◌, ◌++◌, map, append-nil, append_assoc}
use native.Mathlib.Nat.{add-zero, zero-add, add-suc, suc-add}
use native.Mathlib.Numerals.{add-one}
use native.Mathlib.Omega.{arith}
use borrow.Author.Tests.{eqb-true, ne_eqb, eq-eqb, lt-ltb}
use lib.Dec.{eqb}
use lib.ListN.{length, get_or, set, length-map}
use lib.Seq.{sets}
use Rattle.model.specs.Lists.{lowest_from}
use Rattle.block.specs.Bytes.{Each}
use Rattle.block.proofs.Each.{each_append}
use Rattle.tracing.specs.Din.{line_feed, lines_of, line_right, address_of, malformed_line, addresses_of}
use Rattle.tracing.specs.Scans.{started, stopped, right_at, ends_at, with_digit, one_more, line_ended, byte_added, after, kept_after, scanned, kept, scan_place}
use Rattle.tracing.specs.declared.Scan.{Scan}
use Rattle.tracing.proofs.Lines.{Open, line-ended, line-open, Begins, begins, Begun, nothing, label, digits, ended-right, ended-address, open-wrong, grown, broken}

-- the lowest malformed of some lines, numbered from n
unfoldable lowest_line : ℕ → List (List ℕ) → Option ℕ
lowest_line n [] = None
lowest_line n (l ∷ ls) = cond (line_right l) (lowest_line (suc n) ls) (Some n)

lowest-line : (f : ℕ → Bool) (n : ℕ) (ls : List (List ℕ)) → ((i : ℕ) → i < length ls → f (n + i) ≡ line_right (get_or ls i []))
    → lowest_from f n (length ls) ≡ lowest_line n ls
unfolding lowest_from lowest_line
lowest-line f n [] h = refl
lowest-line f n (l ∷ ls) h =
    rw (← h 0 (omega arith), add-zero, lowest-line f (suc n) ls (λ i m. rw (suc-add, ← add-suc) (h (suc i) (omega arith))))

-- what a scan tells of the lines from n on, and what it keeps where none is malformed
record Told (n : ℕ) (lines : List (List ℕ)) (scan : Scan) (old new : List ℕ) : Type 0 where
  pub place : scan_place scan ≡ lowest_line n lines
  pub records : lowest_line n lines ≡ None → scan.records ≡ n + length lines
  pub kept : lowest_line n lines ≡ None → new ≡ sets old n (map address_of lines)

pub somewhere : {n : ℕ} → Some n ≡ None → ⊥
somewhere e = let z : ◌≡◌ {A = ℕ} 0 1 = cc in omega arith

-- a malformed line is told, whatever is kept
told-wrong : (n : ℕ) (lines : List (List ℕ)) (scan : Scan) (old new : List ℕ) → lowest_line n lines ≡ Some n → scan.records ≡ n
    → (scan.column ≡ 0 → ⊥) → Told n lines scan old new
unfolding scan_place
told-wrong n lines scan old new w e c =
    record {
      place = rw (ne_eqb scan.column 0 c, e, w);
      records = λ q. absurd (somewhere (sym w ∙ q));
      kept = λ q. absurd (somewhere (sym w ∙ q));
    }

-- a right line before others that are told
told_line : (n : ℕ) (l : List ℕ) (ls : List (List ℕ)) (scan : Scan) (old new : List ℕ) (a : ℕ) → line_right l ≡ true → address_of l ≡ a
    → Told (n + 1) ls scan (set old n a) new → Told n (l ∷ ls) scan old new
unfolding lowest_line
told_line n l ls scan old new a w ea t =
    record {
      place = t.place ∙ sym low;
      records = λ q. t.records (sym low ∙ q) ∙ omega arith;
      kept = λ q. t.kept (sym low ∙ q) ∙ rw (add-one, ea);
    }
  where
    low : lowest_line n (l ∷ ls) ≡ lowest_line (n + 1) ls
    low = rw (w, add-one)

wrong_first : (n : ℕ) (l : List ℕ) (ls : List (List ℕ)) → line_right l ≡ false → lowest_line n (l ∷ ls) ≡ Some n
unfolding lowest_line
wrong_first n l ls e = rw e

-- what is stopped stays so
stays : (s : Scan) (bs : List ℕ) → scanned (stopped s) bs ≡ stopped s
unfolding scanned after line_ended byte_added ends_at right_at
stays s [] = refl
stays s (b ∷ bs) = go (eqb b line_feed) (stays s bs)
  where
    go : (t : Bool) → scanned (stopped s) bs ≡ stopped s → scanned (cond t (stopped s) (stopped s)) bs ≡ stopped s
    go true e = e
    go false e = e

-- where the bytes end
told-end : (p : List ℕ) (s : Scan) (addresses : List ℕ) → Begun s.column s.address p → Open p → Told s.records (lines_of p) s addresses addresses
unfolding lines_of lowest_line scan_place
told-end p s addresses (nothing ec ea ep) o =
    rw ep (record { place = rw (eq-eqb s.column 0 ec); records = λ _. sym (add-zero s.records); kept = λ _. refl })
told-end p s addresses (label a l ec ea ep) o =
    told-wrong s.records (lines_of p) s addresses addresses
    (rw (ep, line-open a [] (rw ep at o), rw ep at (open-wrong s.column s.address p (label a l ec ea ep)))) refl (λ z. omega arith)
told-end p s addresses (digits a b ds l sp h n ec ea ep) o =
    told-wrong s.records (lines_of p) s addresses addresses
    (rw (ep, line-open a (b ∷ ds) (rw ep at o), rw ep at (open-wrong s.column s.address p (digits a b ds l sp h n ec ea ep)))) refl (λ z. omega arith)

-- some bytes and one more begin the first line
begins-more : (b : ℕ) (p bs : List ℕ) → Open (p ++ (b ∷ [])) → Begins (p ++ (b ∷ [])) (lines_of ((p ++ (b ∷ [])) ++ bs))
begins-more b [] bs o = begins b [] bs o
begins-more b (c ∷ p) bs o = begins c (p ++ (b ∷ [])) bs o

module _ (b : ℕ) (bs p : List ℕ) (s : Scan) (addresses : List ℕ) (g : Begun s.column s.address p) (o : Open p)
    (few : s.records + suc (length bs) < 2 ^ 64)
    (later : (q : List ℕ) (t : Scan) (more : List ℕ) → Begun t.column t.address q → Open q → t.records + length bs < 2 ^ 64
    → Told t.records (lines_of (q ++ bs)) (scanned t bs) more (kept t bs more)) where
  -- a line feed
  told-feed : eqb b line_feed ≡ true → Told s.records (lines_of (p ++ b ∷ bs)) (scanned s (b ∷ bs)) addresses (kept s (b ∷ bs) addresses)
  unfolding after kept_after line_ended scanned kept one_more Each
  told-feed e = rw (lines, e) (go (ends_at s.column) refl)
    where
      lines : lines_of (p ++ b ∷ bs) ≡ (p ++ (line_feed ∷ [])) ∷ lines_of bs
      lines = ap (λ (x : ℕ). lines_of (p ++ x ∷ bs)) (eqb-true b line_feed e) ∙ line-ended p bs o

      go : (t : Bool) → ends_at s.column ≡ t
          → Told s.records ((p ++ (line_feed ∷ [])) ∷ lines_of bs) (scanned (line_ended s) bs) addresses
          (kept (line_ended s) bs (cond (ends_at s.column) (set addresses s.records s.address) addresses))
      go true w =
          rw (w, lt-ltb s.records (2 ^ 64 - 1) (omega arith))
          (told_line s.records (p ++ (line_feed ∷ [])) (lines_of bs) _ addresses _ s.address (ended-right s.column s.address p g ∙ w)
          (ended-address s.column s.address p g w)
          (later [] (record { column = 0; address = 0; records = s.records + 1 }) (set addresses s.records s.address)
          (nothing refl refl refl) tt (omega arith)))
      go false w =
          rw (w, stays s bs)
          (told-wrong s.records _ (stopped s) addresses _
          (wrong_first s.records (p ++ (line_feed ∷ [])) (lines_of bs) (ended-right s.column s.address p g ∙ w)) refl
          (λ z. omega arith))

  -- any other byte
  told-byte : eqb b line_feed ≡ false → Told s.records (lines_of (p ++ b ∷ bs)) (scanned s (b ∷ bs)) addresses (kept s (b ∷ bs) addresses)
  unfolding after kept_after byte_added scanned kept Each
  told-byte e = rw (← append_assoc p (b ∷ []) bs, e) (go (right_at s.column b) refl)
    where
      still : Open (p ++ (b ∷ []))
      still = each_append (λ x. eqb x line_feed ≡ false) p (b ∷ []) o (e, tt)

      go : (t : Bool) → right_at s.column b ≡ t
          → Told s.records (lines_of ((p ++ (b ∷ [])) ++ bs)) (scanned (byte_added s b) bs) addresses (kept (byte_added s b) bs addresses)
      go true w =
          rw w
          (later (p ++ (b ∷ [])) (record { column = s.column + 1; address = with_digit s.column s.address b; records = s.records }) addresses
          (grown s.column s.address p b g w) still (omega arith))
      go false w =
          let first = begins-more b p bs still in
          rw (w, stays s bs)
          (told-wrong s.records _ (stopped s) addresses _
          (rw first.is (wrong_first s.records ((p ++ (b ∷ [])) ++ first.rest) first.others (broken s.column s.address p b g e w first.rest))) refl
          (λ z. omega arith))

told : (bs p : List ℕ) (s : Scan) (addresses : List ℕ) → Begun s.column s.address p → Open p → s.records + length bs < 2 ^ 64
    → Told s.records (lines_of (p ++ bs)) (scanned s bs) addresses (kept s bs addresses)
unfolding scanned kept
told [] p s addresses g o few = rw append-nil (told-end p s addresses g o)
told (b ∷ bs) p s addresses g o few = go (eqb b line_feed) refl (λ q t more. told bs q t more)
  where
    go : (t : Bool) → eqb b line_feed ≡ t
        → ((q : List ℕ) (t : Scan) (more : List ℕ) → Begun t.column t.address q → Open q → t.records + length bs < 2 ^ 64
        → Told t.records (lines_of (q ++ bs)) (scanned t bs) more (kept t bs more))
        → Told s.records (lines_of (p ++ b ∷ bs)) (scanned (after s b) bs) addresses (kept (after s b) bs (kept_after s b addresses))
    go true e later = told-feed b bs p s addresses g o few later e
    go false e later = told-byte b bs p s addresses g o few later e

-- a whole text: the lowest malformed line is the scan's, and where there is none, all addresses are kept, as far as there is room
module _ (text addresses : List ℕ) (few : length text < 2 ^ 64) where
  whole : Told 0 (lines_of text) (scanned started text) addresses (kept started text addresses)
  unfolding started Each
  whole = told text [] started addresses (nothing refl refl refl) tt (omega arith)

  line-lowest : malformed_line text ≡ lowest_line 0 (lines_of text)
  unfolding malformed_line
  line-lowest = lowest-line (λ i. line_right (get_or (lines_of text) i [])) 0 (lines_of text) (λ i h. rw zero-add)

  pub scanned-place : scan_place (scanned started text) ≡ malformed_line text
  scanned-place = whole.place ∙ sym line-lowest

  pub scanned-records : malformed_line text ≡ None → (scanned started text).records ≡ length (addresses_of text)
  unfolding addresses_of
  scanned-records e = whole.records (sym line-lowest ∙ e) ∙ rw (zero-add, length-map)

  pub scanned-kept : malformed_line text ≡ None → kept started text addresses ≡ sets addresses 0 (addresses_of text)
  unfolding addresses_of
  scanned-kept e = whole.kept (sym line-lowest ∙ e)
