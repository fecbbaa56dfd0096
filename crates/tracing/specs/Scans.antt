-- What a scan of a text knows, byte by byte, so that a text can be scanned in pieces. That this is what the lines of the whole text say is
-- stated in Statements. Assumes nothing.
use Rattle.std.specs.Prelude.{ℕ, ◌+◌, ◌-◌, ◌*◌, ◌%◌, ◌^◌, ◌≤◌, ◌≡◌, Bool, cond, ◌&&◌, List, [], ◌∷◌, eqb, leb, ltb, length, set, Option, None, Some}
use Rattle.tracing.specs.Din.{line_feed, is_label, is_space, is_hex, digit_of}
use Rattle.tracing.specs.declared.Scan.{Scan}

-- before any byte
unfoldable pub started : Scan
started = record { column = 0; address = 0; records = 0 }

-- the line is malformed, and so it stays: nothing behind it changes the lowest malformed line. A right line has no column 11
abbrev pub stopped : Scan → Scan
stopped s = record { column = 11; address = s.address; records = s.records }

-- a byte other than the line feed is right at a column: a label, a space, and digits up to the eighth
unfoldable pub right_at : ℕ → ℕ → Bool
right_at column b = cond (eqb column 0) (is_label b) (cond (eqb column 1) (is_space b) (leb column 9 && is_hex b))

-- a line feed is right behind 1 to 8 digits
unfoldable pub ends_at : ℕ → Bool
ends_at column = leb 3 column && leb column 10

-- the address with one digit more, in 32 bits
unfoldable pub with_digit : ℕ → ℕ → ℕ → ℕ
with_digit column address b = cond (leb column 1) address (address % 2 ^ 28 * 16 + digit_of b)

-- one record more; a count of 64 bits stays at the largest number
unfoldable pub one_more : ℕ → ℕ
one_more n = cond (ltb n (2 ^ 64 - 1)) (n + 1) n

-- behind a line feed, and behind any other byte
unfoldable pub line_ended : Scan → Scan
line_ended s = cond (ends_at s.column) (record { column = 0; address = 0; records = one_more s.records }) (stopped s)

unfoldable pub byte_added : Scan → ℕ → Scan
byte_added s b =
    cond (right_at s.column b)
    (record { column = s.column + 1; address = with_digit s.column s.address b; records = s.records })
    (stopped s)

unfoldable pub after : Scan → ℕ → Scan
after s b = cond (eqb b line_feed) (line_ended s) (byte_added s b)

-- the addresses kept so far, with that of a record that a byte ends
unfoldable pub kept_after : Scan → ℕ → List ℕ → List ℕ
kept_after s b addresses = cond (eqb b line_feed && ends_at s.column) (set addresses s.records s.address) addresses

-- all bytes of a piece
unfoldable pub scanned : Scan → List ℕ → Scan
scanned s [] = s
scanned s (b ∷ bs) = scanned (after s b) bs

unfoldable pub kept : Scan → List ℕ → List ℕ → List ℕ
kept s [] addresses = addresses
kept s (b ∷ bs) addresses = kept (after s b) bs (kept_after s b addresses)

-- a scan `r` that read some bytes of `rest`, none of them a line feed, and left `left`: what is left, scanned on, comes to the same, whatever
-- is kept
pub record Ahead (s : Scan) (rest : List ℕ) (r : Scan) (left : List ℕ) : Type 0 where
  pub shorter : length left ≤ length rest
  pub same : scanned r left ≡ scanned s rest
  pub keeps : (addresses : List ℕ) → kept r left addresses ≡ kept s rest addresses

-- the malformed line, where the text ends here: the one that is not ended is malformed too
unfoldable pub scan_place : Scan → Option ℕ
scan_place s = cond (eqb s.column 0) None (Some s.records)
