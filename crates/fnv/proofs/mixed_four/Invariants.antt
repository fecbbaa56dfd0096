-- `fnv::mixed_four` meets its contract. The loop's invariant: each of the four chains has reached `i`.
use Rattle.fnv.specs.Steps.{Reached}
use Rattle.fnv.proofs.mixed_four.Given as goal

abbrev pub invariant-loop-i : goal.invariant-loop-i
invariant-loop-i l =
    Reached l.initial.state_a l.a l.i l.state_a × Reached l.initial.state_b l.b l.i l.state_b × Reached l.initial.state_c l.c l.i l.state_c × Reached l.initial.state_d l.d l.i l.state_d
