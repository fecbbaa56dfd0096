-- Every file made is accepted, and its task is the traced one: the traced task is within the limits of a file.
-- Assumes nothing.
use Rattle.std.specs.Prelude.{None}
use Prim.Native.Nat.{ℕ, zero, suc, ◌*◌, ◌/◌, ◌^◌, ◌<◌}
use mathlib.Core.Path.{◌≡◌, refl}
use mathlib.Core.Bool.{true}
use mathlib.Core.List.{List, [], ◌∷◌}
use native.Mathlib.Nat.{zero-add, div-le_self}
use native.Mathlib.Omega.{arith}
use borrow.Author.Tests.{le-leb}
use lib.ListN.{length, take, drop, length-map}
use lib.Seq.{take-append_seam}
use Rattle.model.proofs.Lowest.{lowest-nowhere}
use Rattle.block.specs.Bytes.{Each}
use Rattle.block.proofs.Each.{each_of, each_map}
use Rattle.taskfile.specs.File.{header_numbers, counts_in_range, scratch_in_range, header_in_range, EntryWithin, Within, file_of}
use Rattle.taskfile.proofs.Tasks.{file-then-task}
use Rattle.tracing.specs.Din.{lines_of, line_right, address_of, malformed_line, addresses_of}
use Rattle.tracing.specs.Traces.{blocks_for, traced_block, group_at, traced_blocks, traced_task}
use Rattle.tracing.specs.Calls.{answer_of, output_of, made_answer, made_output}
use Rattle.tracing.specs.Statements.{Narrow, TracedAccepted}
use Rattle.tracing.specs.declared.Settings.{Settings}
use Rattle.tracing.proofs.Lines.{right-small}
use Rattle.tracing.proofs.Groups.{group-length, Known, known}
use Rattle.tracing.proofs.Files.{count-traced, each-collect}
use Rattle.tracing.proofs.Rows.{accepted-rows}

abbrev Small : ℕ → Type 0
Small m = m < 2 ^ 32

-- the addresses of right lines
addresses-small : (text : List ℕ) → malformed_line text ≡ None → Each Small (addresses_of text)
unfolding malformed_line addresses_of
addresses-small text e =
    each_map (λ l. line_right l ≡ true) Small address_of right-small (lines_of text)
    (each_of (λ l. line_right l ≡ true) (lines_of text) [] (λ i h. lowest-nowhere _ 0 (length (lines_of text)) e i (omega arith) (omega arith)))

each_take : (n : ℕ) (xs : List ℕ) → Each Small xs → Each Small (take n xs)
unfolding Each
each_take zero xs e = tt
each_take (suc n) [] e = tt
each_take (suc n) (x ∷ xs) e = (e.0, each_take n xs e.1)

each-drop : (n : ℕ) (xs : List ℕ) → Each Small xs → Each Small (drop n xs)
unfolding Each
each-drop zero xs e = e
each-drop (suc n) [] e = tt
each-drop (suc n) (x ∷ xs) e = each-drop n xs e.1

module _ (s : Settings) (addresses : List ℕ) (k : Known s addresses) (small : Each Small addresses) where
  entry-within : (i : ℕ) → i < blocks_for (length addresses) s.group
      → let b = traced_block s (group_at s.group addresses i) in EntryWithin b.time b.reads
  unfolding traced_block group_at
  entry-within i h =
      let group : List ℕ = take s.group (drop (i * s.group) addresses) in
      record {
        number = omega (arith, k.time i h);
        count = rw length-map (omega (arith, group-length s.group addresses i, k.group-most));
        numbers =
            each_map Small Small (λ a. a / s.size) (λ a l. omega (arith, div-le_self a s.size)) group
            (each_take s.group _ (each-drop (i * s.group) addresses small));
      }

  blocks-within : Each (λ b. EntryWithin b.time b.reads) (traced_blocks s addresses)
  unfolding traced_blocks
  blocks-within =
      each-collect (λ b. EntryWithin b.time b.reads) (λ i. traced_block s (group_at s.group addresses i)) 0 (blocks_for (length addresses) s.group)
      (λ i l h. entry-within i (rw zero-add at h))

  within : Narrow s → Within (traced_task s addresses)
  unfolding traced_task header_in_range counts_in_range scratch_in_range header_numbers Each
  within n =
      let count : length (traced_blocks s addresses) ≡ blocks_for (length addresses) s.group = count-traced s addresses in
      record {
        in-range =
            rw (
              count,
              le-leb 1 _ k.blocks-some,
              le-leb _ 64 k.blocks-few,
              le-leb 1 s.line_count k.lines-least,
              le-leb s.line_count 512 k.lines-most,
            );
        numbers = rw count (omega (arith, k.blocks-few, k.lines-most, n.limit, n.reload, n.id));
        blocks = blocks-within;
        preempters = tt;
      }

pub traced-accepted : TracedAccepted
unfolding made_answer made_output answer_of output_of
traced-accepted s text out n e =
    let rows = accepted-rows s (malformed_line text) (addresses_of text) out e in
    let k = known s (addresses_of text) rows.traceable in (
      length (file_of (traced_task s (addresses_of text))),
      rw e refl,
      rw (e, take-append_seam) (file-then-task (traced_task s (addresses_of text)) (within s (addresses_of text) k (addresses-small text rows.lines) n)),
    )
