-- `tracing::check_settings` meets its contract, by the test's two answers.
use Rattle.tracing.specs.Calls.{settings_row}
use Rattle.tracing.proofs.check_settings.Goals as goal

pub returns-then-settings_in_range : goal.returns-then-settings_in_range
unfolding settings_row
returns-then-settings_in_range c = rw (← c.settings_in_range.ensures, c.if-settings_in_range.true)

pub returns-else-settings_in_range : goal.returns-else-settings_in_range
unfolding settings_row
returns-else-settings_in_range c = rw (← c.settings_in_range.ensures, c.if-settings_in_range.false)
