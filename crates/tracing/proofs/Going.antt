-- A scan goes ahead over a label with its space, and over a digit.
-- Assumes nothing.
use Prim.Native.Nat.{ℕ, ◌+◌, ◌*◌, ◌%◌, ◌^◌, ◌<◌, ◌≤◌}
use mathlib.Core.Path.{◌≡◌, refl, sym, ap}
use mathlib.Core.Bool.{true}
use mathlib.Core.List.{List, [], ◌∷◌}
use native.Mathlib.Omega.{arith}
use lib.ListN.{length, get_or, drop}
use Rattle.tracing.specs.Din.{is_label, is_space, is_hex, digit_of}
use Rattle.tracing.specs.Scans.{right_at, with_digit, byte_added, Ahead}
use Rattle.tracing.specs.declared.Scan.{Scan}
use Rattle.tracing.proofs.Digits.{label-no-feed, hex-no-feed}
use Rattle.tracing.proofs.Columns.{digit-right, one-digit, added}
use Rattle.tracing.proofs.Turns.{ahead_none, ahead_more, ahead-at}

module _ (s : Scan) (b : ℕ) where
  pub label-added : s.column ≡ 0 → is_label b ≡ true → record { column = 1; address = s.address; records = s.records } ≡ byte_added s b
  unfolding byte_added right_at with_digit
  label-added e l = rw (e, l) refl

  pub space-added : s.column ≡ 1 → b ≡ 32 → record { column = 2; address = s.address; records = s.records } ≡ byte_added s b
  unfolding byte_added right_at with_digit is_space
  space-added e p = rw (e, p) refl

  pub digit-added : 1 < s.column → s.column ≤ 9 → is_hex b ≡ true
      → record { column = s.column + 1; address = s.address % 2 ^ 28 * 16 + digit_of b; records = s.records } ≡ byte_added s b
  digit-added low high h = added s b _ (rw (digit-right s.column b low high) h) (sym (one-digit s.column s.address b low))

pub line-begun : (s : Scan) (rest : List ℕ) → s.column ≡ 0 → 2 ≤ length rest → is_label (get_or rest 0 0) ≡ true → get_or rest 1 0 ≡ 32
    → Ahead s rest (record { column = 2; address = s.address; records = s.records }) (drop 2 rest)
line-begun s [] e two l sp = absurd (omega arith)
line-begun s (a ∷ []) e two l sp = absurd (omega arith)
line-begun s (a ∷ b ∷ left) e two l sp =
    let label : Scan = record { column = 1; address = s.address; records = s.records } in
    let first : Ahead s (a ∷ b ∷ left) label (b ∷ left) =
    rw (label-added s a e l) (ahead_more s (a ∷ b ∷ left) s a (b ∷ left) (ahead_none s (a ∷ b ∷ left)) (label-no-feed a l)) in
    rw (space-added label b refl sp) (ahead_more s (a ∷ b ∷ left) label b left first (rw sp refl))

-- a digit takes one column
pub digit-column : (s : Scan) (b : ℕ) → 1 < s.column → s.column ≤ 9 → is_hex b ≡ true → (byte_added s b).column ≡ s.column + 1
digit-column s b low high h = ap (λ (t : Scan). t.column) (sym (digit-added s b low high h))

pub digit-read : (s : Scan) (rest : List ℕ) (r : Scan) (i : ℕ) → Ahead s rest r (drop i rest) → i < length rest → is_hex (get_or rest i 0) ≡ true
    → Ahead s rest (byte_added r (get_or rest i 0)) (drop (i + 1) rest)
digit-read s rest r i a h hex = ahead-at s rest r rest i a h (hex-no-feed (get_or rest i 0) hex)
