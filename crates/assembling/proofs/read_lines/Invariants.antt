-- `assembling::read_lines` meets its contract.
use lib.ListN.{length}
use Rattle.assembling.proofs.Lines.{ReadTo}
use Rattle.assembling.proofs.read_lines.Given as goal

abbrev pub invariant-loop-rest : goal.invariant-loop-rest
invariant-loop-rest l = ReadTo l.text l.file l.known l.line l.rest

abbrev pub decreases-loop-rest : goal.decreases-loop-rest
decreases-loop-rest l = length l.rest
