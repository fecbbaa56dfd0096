-- What the verdict of a trace says: an accepted one of its output, its settings, its lines and its records.
-- Assumes nothing.
use Rattle.std.specs.Prelude.{None, Option, Some}
use Prim.Native.Nat.{ℕ}
use mathlib.Core.Path.{◌≡◌, refl, sym}
use mathlib.Core.List.{List}
use lib.ListN.{length}
use Rattle.model.specs.Answers.{accept, and_then, output_row}
use Rattle.model.specs.declared.Refusal.TheVariants.{OutOfRange}
use Rattle.model.proofs.Verdicts.{never_both, both-accepted, row-holds, output-size}
use Rattle.tracing.specs.Calls.{output_size, settings_row, records_row, line_row, verdict_of, Traceable}
use Rattle.tracing.specs.declared.Settings.{Settings}

no_line : (malformed : Option ℕ) → line_row malformed ≡ accept → malformed ≡ None
unfolding line_row
no_line None e = refl
no_line (Some i) e = absurd (never_both (sym e))

pub record Rows (s : Settings) (malformed : Option ℕ) (addresses out : List ℕ) : Type 0 where
  pub size : length out ≡ output_size
  pub lines : malformed ≡ None
  pub traceable : Traceable s addresses

pub accepted-rows : (s : Settings) (malformed : Option ℕ) (addresses out : List ℕ) → verdict_of s malformed addresses out ≡ accept → Rows s malformed addresses out
unfolding verdict_of settings_row
accepted-rows s malformed addresses out e =
    let a = both-accepted (output_row output_size (length out)) _ e in
    let b = both-accepted (settings_row s) (and_then (line_row malformed) (records_row s addresses)) a.1 in
    let c = both-accepted (line_row malformed) (records_row s addresses) b.1 in
    record {
      size = output-size output_size (length out) a.0;
      lines = no_line malformed c.0;
      traceable = record { in-range = row-holds OutOfRange _ b.0; records = c.1 };
    }
