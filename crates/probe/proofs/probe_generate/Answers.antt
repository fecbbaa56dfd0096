-- `probe::probe_generate` meets its contract: it returns and leaves what `generate` answers.
use Rattle.probe.proofs.probe_generate.Goals as goal

pub returns : goal.returns
returns c =
    let made = c.generate-verdict.ensures in
    record { value = rw made.value at c.verdict_number.ensures; place_after = rw made.value at c.verdict_place.ensures; out_after = made.out_after }
