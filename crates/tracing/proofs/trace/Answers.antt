-- `tracing::trace` meets its contract: the whole text is scanned, and what is made of the scan is
-- what its lines make. Its array is room enough.
use Prim.Native.Nat.{ℕ}
use mathlib.Core.Path.{ap, ap₂, ◌∙◌}
use mathlib.Core.List.{List}
use native.Mathlib.Omega.{arith}
use lib.ListN.{replicate, length-replicate}
use Rattle.tracing.specs.Scans.{scanned, kept}
use Rattle.tracing.specs.Calls.{least_room, scan_answer, scan_output}
use Rattle.tracing.specs.declared.Scan.{Scan}
use Rattle.tracing.proofs.Whole.{room-enough, scanned-whole}
use Rattle.tracing.proofs.trace.Goals as goal

pub returns : goal.returns
returns c =
    let args = c.args in
    let text = c.args.text.now in
    let out = c.args.out.now in
    let zeros = replicate {A = ℕ} least_room 0 in
    let begun = c.start.ensures in
    let over = c.over-scan in
    let made = c.finish.ensures in
    let scan = c.over-scan.ensures.value ∙ ap (λ (s : Scan). scanned s text) begun in
    let found = c.over-scan.ensures.addresses_after ∙ ap (λ (s : Scan). kept s text zeros) begun in
    let whole = scanned-whole args.settings text zeros out (omega arith) in
    let enough = room-enough zeros out _ _ (rw length-replicate (omega arith)) in record { value = c.finish.ensures.value ∙ ap₂ (λ (s : Scan) (xs : List ℕ). scan_answer args.settings s xs out) scan found ∙ whole.0 ∙ enough.0; out_after = c.finish.ensures.out_after ∙ ap₂ (λ (s : Scan) (xs : List ℕ). scan_output args.settings s xs out) scan found ∙ whole.1 ∙ enough.1 }
