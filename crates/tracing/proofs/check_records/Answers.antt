-- `tracing::check_records` meets its contract: all times fit if that of the longest block does.
use Prim.Native.Nat.{ℕ, ◌*◌, ◌≤◌}
use mathlib.Core.Path.{ap, ◌∙◌}
use lib.ListN.{length}
use native.Mathlib.Nat.{mul-le-mul}
use native.Mathlib.Omega.{arith}
use Rattle.tracing.proofs.Groups.{none-refused, many-refused, long-refused, records-accepted}
use Rattle.tracing.proofs.Numbers.{smaller}
use Rattle.tracing.proofs.check_records.Goals as goal

pub returns-then-count-eq0 : goal.returns-then-count-eq0
returns-then-count-eq0 c = none-refused c.args.settings _ c.if-count-eq0.true

pub returns-then-group-count : goal.returns-then-group-count
returns-then-group-count c =
    let args = c.args in
    many-refused args.settings args.addresses.now (omega arith)

pub overflow_mul-longest : goal.overflow_mul-longest
overflow_mul-longest c =
    let least = c.min-longest.ensures ∙ smaller (length c.args.addresses.now) c.args.settings.group in
    let longest : c.min-longest.result ≤ 4294967295 = omega arith in
    let ticks : c.args.settings.ticks ≤ 4294967295 = omega arith in
    omega (arith, mul-le-mul longest ticks)

pub returns-then-longest-settings-gt4294967295 : goal.returns-then-longest-settings-gt4294967295
returns-then-longest-settings-gt4294967295 c =
    let args = c.args in
    let least = c.min-longest.ensures ∙ smaller (length c.args.addresses.now) c.args.settings.group in
    long-refused args.settings args.addresses.now (omega arith)
    (omega (arith, ap (λ (n : ℕ). n * args.settings.ticks) least))

pub returns : goal.returns
returns c =
    let args = c.args in
    let least = c.min-longest.ensures ∙ smaller (length c.args.addresses.now) c.args.settings.group in
    records-accepted args.settings args.addresses.now (omega arith) (omega arith)
    (omega (arith, ap (λ (n : ℕ). n * args.settings.ticks) least))
