-- `tracing::Scan::over` meets its contract. The loop's invariant: the bytes that are left, scanned on, come to what all bytes come to.
use mathlib.Core.Path.{sym, ◌∙◌}
use Rattle.tracing.specs.Scans.{scanned, kept}
use Rattle.tracing.proofs.Turns.{scanned-none, kept_none}
use Rattle.tracing.proofs.Scan.over.Goals as goal

pub loop-byte-preserved : goal.loop-byte-preserved
unfolding scanned kept
loop-byte-preserved c =
    let loop = c.loop-byte in
    let first = c.in-Some.ensures.cases.0 in
    let ahead = c.read_line.ensures in
    let same = rw first at ahead.same in
    let keeps = rw first at (ahead.keeps loop.addresses) in
    (rw c.step.ensures (same ∙ loop.invariant.0), rw (c.step.ensures, c.keep.ensures) (keeps ∙ loop.invariant.1))

pub returns-clause-value : goal.returns-clause-value
returns-clause-value c =
    let ahead = c.read_line.ensures in
    sym (scanned-none c.read_line.new.self _ c.in_default.ensures.cases) ∙ ahead.same ∙ c.loop-byte.invariant.0

pub returns-clause-addresses_after : goal.returns-clause-addresses_after
returns-clause-addresses_after c =
    let ahead = c.read_line.ensures in
    sym (kept_none c.read_line.new.self _ c.loop-byte.addresses c.in_default.ensures.cases) ∙ ahead.keeps c.loop-byte.addresses ∙ c.loop-byte.invariant.1
