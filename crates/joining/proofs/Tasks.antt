-- Laws of joined tasks: their counts, what the rows say when they accept, and that a joined task is within the limits of a file.
-- Assumes nothing.
use Prim.Native.Nat.{ℕ, ◌+◌, ◌*◌, ◌≤◌, min}
use mathlib.Core.Path.{◌≡◌, refl}
use mathlib.Core.Bool.{true, ◌&&◌, and-eq-true_iff}
use mathlib.Core.List.{append_assoc}
use native.Mathlib.Omega.{arith}
use lib.Dec.{eqb, leb}
use lib.ListN.{length, length-append}
use borrow.Author.Tests.{eqb-true, leb-true, eq-eqb, le-leb}
use Rattle.model.specs.Task.{Task, block_count, line_count}
use Rattle.model.specs.Answers.{accept, Verdict, and_then, output_row}
use Rattle.model.specs.declared.Refusal.TheVariants.{Mismatch, TooManyBlocks}
use Rattle.model.proofs.Verdicts.{both-accepted, row-holds, output-size}
use Rattle.block.specs.Bytes.{Each}
use Rattle.block.proofs.Each.{each_append}
use Rattle.taskfile.specs.File.{counts_in_range, header_in_range, header_numbers, EntryWithin, Within}
use Rattle.taskfile.proofs.Accepted.{in-range}
use Rattle.writer.specs.Writing.{file_size}
use Rattle.joining.specs.Joining.{joined_header, joined, agree, counts_fit}
use Rattle.joining.specs.Calls.{agree_row, totals_row, join_rows}

module _ (t u : Task) where
  pub count-joined : block_count (joined t u) ≡ block_count t + block_count u
  unfolding joined
  count-joined = length-append t.blocks u.blocks

  pub preempters-joined : length (joined t u).preempters ≡ length t.preempters + length u.preempters
  unfolding joined
  preempters-joined = length-append t.preempters u.preempters

pub record Agreeing (t u : Task) : Type 0 where
  pub lines : line_count t ≡ line_count u
  pub reloads : t.header.reload ≡ u.header.reload
  pub ranges : t.header.scratch ≡ u.header.scratch
  pub switches : t.header.switch ≡ u.header.switch

pub agreeing : (t u : Task) → agree t u ≡ true → Agreeing t u
unfolding agree
agreeing t u e =
    let a = t.header in
    let b = u.header in
    let every = (and-eq-true_iff (eqb a.line_count b.line_count && eqb a.reload b.reload && eqb a.scratch.first b.scratch.first && eqb a.scratch.count b.scratch.count) _).0 e in
    let all = (and-eq-true_iff (eqb a.line_count b.line_count && eqb a.reload b.reload && eqb a.scratch.first b.scratch.first) _).0 every.0 in
    let three = (and-eq-true_iff (eqb a.line_count b.line_count && eqb a.reload b.reload) _).0 all.0 in
    let two = (and-eq-true_iff (eqb a.line_count b.line_count) _).0 three.0 in
    record {
      lines = eqb-true _ _ two.0;
      reloads = eqb-true _ _ two.1;
      ranges = λ i. record { first = eqb-true a.scratch.first b.scratch.first three.1 i; count = eqb-true a.scratch.count b.scratch.count all.1 i };
      switches = eqb-true _ _ every.1;
    }

pub agreeing-agree : (t u : Task) → Agreeing t u → agree t u ≡ true
unfolding agree
agreeing-agree t u a =
    rw (a.lines, a.reloads, a.ranges, a.switches, eq-eqb (line_count u) _ refl, eq-eqb u.header.reload _ refl, eq-eqb u.header.scratch.first _ refl, eq-eqb u.header.scratch.count _ refl, eq-eqb u.header.switch _ refl)

pub counts-fit : (n m : ℕ) → counts_fit n m ≡ true → (n ≤ 64) × (m ≤ 32)
unfolding counts_fit
counts-fit n m e = let a = (and-eq-true_iff (leb n 64) (leb m 32)).0 e in (leb-true n 64 a.0, leb-true m 32 a.1)

pub few-fit : (n m : ℕ) → n ≤ 64 → m ≤ 32 → counts_fit n m ≡ true
unfolding counts_fit
few-fit n m h l = rw (le-leb n 64 h, le-leb m 32 l)

-- what rows 12 and 9 say when they accept n basic blocks, m preempters and an output of this length
pub record Roomy (n m size : ℕ) : Type 0 where
  pub fit : counts_fit n m ≡ true
  pub long : size ≡ 512 * (1 + n + m)

pub room-accepts : (n m size : ℕ) → and_then (totals_row n m) (output_row (file_size n m) size) ≡ accept → Roomy n m size
unfolding totals_row
room-accepts n m size e =
    let both = both-accepted (totals_row n m) (output_row (file_size n m) size) e in
    record { fit = row-holds TooManyBlocks _ both.0; long = output-size (file_size n m) size both.1 }

-- the rows in their order, of a task with N and M such
pub rows-are : (t u : Task) {n m size : ℕ} (long : ℕ) {a b c : Verdict} → n ≡ block_count (joined t u) → m ≡ length (joined t u).preempters
    → a ≡ agree_row t u → b ≡ totals_row n m → size ≡ file_size n m → c ≡ output_row size long → and_then a (and_then b c) ≡ join_rows t u long
unfolding join_rows
rows-are t u long n-is m-is a b s c = rw (a, b, c, s, n-is, m-is)

-- and all rows
pub record RowsAccept (t u : Task) (size : ℕ) : Type 0 where
  pub agreed : agree t u ≡ true
  pub room : Roomy (block_count (joined t u)) (length (joined t u).preempters) size

pub rows-accept : (t u : Task) (size : ℕ) → join_rows t u size ≡ accept → RowsAccept t u size
unfolding join_rows agree_row
rows-accept t u size e =
    let both = both-accepted (agree_row t u) _ e in
    record { agreed = row-holds Mismatch _ both.0; room = room-accepts _ _ size both.1 }

-- the joined task is within the limits of a file
pub within-joined : (t u : Task) → Within t → Within u → counts_fit (block_count (joined t u)) (length (joined t u).preempters) ≡ true
    → Within (joined t u)
unfolding joined joined_header header_in_range counts_in_range header_numbers Each
within-joined t u a b f =
    let n : ℕ = block_count (joined t u) in
    let m : ℕ = length (joined t u).preempters in
    let s : ℕ = line_count t in
    let range = in-range t a.in-range in
    let fit = counts-fit n m f in
    let least : 1 ≤ n = omega (arith, count-joined t u) in
    let scratch = ((and-eq-true_iff (counts_in_range (block_count t) (length t.preempters) s) _).0 a.in-range).1 in
    record {
      in-range = rw (le-leb 1 n least, le-leb n 64 fit.0, le-leb m 32 fit.1, le-leb 1 s range.3, le-leb s 512 range.4, scratch) refl;
      numbers = omega arith;
      blocks = each_append (λ b. EntryWithin b.time b.reads) t.blocks u.blocks a.blocks b.blocks;
      preempters = each_append (λ p. EntryWithin p.id p.reads) t.preempters u.preempters a.preempters b.preempters;
    }

-- joining is associative
pub joined-assoc : (t u v : Task) → joined (joined t u) v ≡ joined t (joined u v)
unfolding joined joined_header
joined-assoc t u v =
    let a = t.header in
    let b = u.header in
    let c = v.header in
    let limits : min (min a.limit b.limit) c.limit ≡ min a.limit (min b.limit c.limit) = omega arith in
    let seconds : min (min a.second_limit b.second_limit) c.second_limit ≡ min a.second_limit (min b.second_limit c.second_limit) = omega arith in
    rw (append_assoc t.blocks u.blocks v.blocks, append_assoc t.preempters u.preempters v.preempters, limits, seconds)
