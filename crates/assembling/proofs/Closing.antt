-- A whole draft, whose blocks are stored, becomes the file of its task.
-- Assumes nothing.
use Rattle.std.specs.Prelude.{Err, None, Ok}
use Prim.Native.Nat.{ℕ, ◌+◌, ◌*◌, ◌≤◌}
use mathlib.Core.Path.{◌≡◌, refl, sym, ap, ◌∙◌}
use mathlib.Core.List.{List, [], ◌++◌}
use native.Mathlib.Omega.{arith}
use lib.ListN.{length, get_or, take, drop, length-drop, take-append-drop}
use lib.Seq.{drop-append-le, length-take-le, take_all, take_at}
use Rattle.model.specs.Task.{Task, block_count}
use Rattle.block.proofs.Sealing.{sealed-front}
use Rattle.taskfile.specs.File.{file_of, Within}
use Rattle.taskfile.proofs.Accepted.{accepted, block-count, preempter-count}
use Rattle.taskfile.proofs.Tasks.{file-then-task}
use Rattle.writer.specs.Writing.{Appended, closed_file}
use Rattle.writer.proofs.Laws.{task-closed}
use Rattle.assembling.specs.Drafts.{Draft, header_from, task_from, wrong_in, task_in}
use Rattle.assembling.specs.Steps.{Knows, names_of, Stored}
use Rattle.assembling.specs.Limits.{Drafted}
use Rattle.assembling.specs.Calls.{assemble_verdict, assemble_answer, assemble_output}
use Rattle.model.specs.Answers.{accept, refused_at, output_row}
use Rattle.model.specs.declared.Refusal.{Refusal}
use Rattle.model.specs.declared.Refusal.TheVariants.{WrongText}
use Rattle.assembling.specs.declared.Known.{Known}
use Rattle.assembling.proofs.Drafting.{count-names}
use Rattle.assembling.proofs.Limits.{within-drafted}

-- the file of a task within the limits has as many blocks as its header counts
pub length-file : (t : Task) → Within t → length (file_of t) ≡ 512 * (1 + block_count t + length t.preempters)
length-file t w =
    let made = file-then-task t w in
    let file = accepted (file_of t) made.0 in
    file.long ∙ rw (← block-count (file_of t), ← preempter-count (file_of t), made.1) refl

module _ (d : Draft) (k : Known) (knows : Knows d k) (whole : Drafted d) where
  numbers-are : k.header ≡ d.numbers
  numbers-are =
      let eight : k.given ≡ 8 = omega (arith, knows.given, whole.all, whole.right.few) in
      sym (take_all 8 k.header (omega (arith, knows.room))) ∙ rw eight at knows.header

  pub size_is : 512 * (1 + k.blocks + k.preempters) ≡ length (file_of (task_from d))
  unfolding task_from
  size_is = rw (knows.blocks, knows.preempters) (sym (length-file (task_from d) (within-drafted d whole)))

  stored-front : (file : List ℕ) → length file ≡ 49664 → Stored d file → Stored d (take (512 * (1 + k.blocks + k.preempters)) file)
  unfolding Appended
  stored-front file long stored =
      let size : ℕ = 512 * (1 + k.blocks + k.preempters) in
      let front : List ℕ = take size file in
      let fits : size ≤ length file = omega (arith, knows.blocks, knows.preempters, whole.right.counts.0, whole.right.counts.1) in
      let count : 0 + length (names_of d) ≡ k.blocks + k.preempters = omega (arith, count-names d, knows.blocks, knows.preempters) in
      let behind : drop 512 file ≡ drop 512 front ++ drop size file =
      ap (drop 512) (sym (take-append-drop size file)) ∙ drop-append-le 512 front (drop size file) (omega (arith, length-take-le size file fits)) in
      let blocks : length (drop 512 front) ≡ 512 * (0 + length (names_of d)) = omega (arith, length-drop 512 front, length-take-le size file fits) in
      rw (behind, sealed-front (0 + length (names_of d)) (drop 512 front) (drop size file) blocks) at stored

  closed : (file new : List ℕ) → length file ≡ 49664 → Stored d file
      → new ≡ closed_file k.blocks k.preempters (header_from k.header) (take (512 * (1 + k.blocks + k.preempters)) file) → new ≡ file_of (task_from d)
  unfolding task_from
  closed file new long stored e =
      e ∙ rw numbers-are (task-closed (task_from d) k.blocks k.preempters [] _ knows.blocks knows.preempters (stored-front file long stored))

  -- what stands in front, whatever stands behind it
  pub closed-front : (file new rest : List ℕ) → length file ≡ 49664 → Stored d file
      → new ≡ closed_file k.blocks k.preempters (header_from k.header) (take (512 * (1 + k.blocks + k.preempters)) file)
      → take (512 * (1 + k.blocks + k.preempters)) (new ++ rest) ≡ file_of (task_from d)
  closed-front file new rest long stored e =
      let made = closed file new long stored e in
      take_at new rest (512 * (1 + k.blocks + k.preempters)) (ap length made ∙ sym size_is) ∙ made

  pub header-lines : get_or k.header 1 0 ≤ 512
  header-lines = rw numbers-are (whole.right.lines (omega (arith, whole.all))).1

-- what the call answers and leaves, by its verdict

pub assemble-refused : (text out : List ℕ) (x : Refusal) → assemble_verdict text out ≡ Err x
    → (assemble_answer text out ≡ Err x) × (assemble_output text out ≡ out)
unfolding assemble_answer assemble_output
assemble-refused text out x e = (rw e refl, rw e refl)

pub assemble-accepted : (text out : List ℕ) → assemble_verdict text out ≡ accept
    → (assemble_answer text out ≡ Ok (length (file_of (task_in text)))) ×
    (assemble_output text out ≡ file_of (task_in text) ++ drop (length (file_of (task_in text))) out)
unfolding assemble_answer assemble_output
assemble-accepted text out e = (rw e refl, rw e refl)

pub output-refused : (text out : List ℕ) (x : Refusal) → output_row 49664 (length out) ≡ Err x → assemble_verdict text out ≡ Err x
unfolding assemble_verdict
output-refused text out x e = rw e refl

module _ (text out : List ℕ) (checked : output_row 49664 (length out) ≡ accept) where
  pub text-refused : (x : Refusal) → refused_at (wrong_in text) WrongText accept ≡ Err x → assemble_verdict text out ≡ Err x
  unfolding assemble_verdict
  text-refused x e = rw (checked, e) refl

  pub text-accepted : wrong_in text ≡ None → assemble_verdict text out ≡ accept
  unfolding assemble_verdict
  text-accepted w = rw (checked, w) refl
