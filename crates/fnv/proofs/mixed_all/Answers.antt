-- `fnv::mixed_all` meets its contract: the fold of a step is the hash.
use Rattle.std.proofs.Common.{◌≡◌, ◌∙◌, fold, rules}
use Rattle.fnv.specs.Fnv.{step}
use Rattle.fnv.proofs.Chain.{fold-hash}
use Rattle.fnv.proofs.mixed_all.Goals as goal

pub returns : goal.returns
returns c =
    let whole : c.fold.result ≡ fold step c.args.from c.args.bytes.now = search rules in
    whole ∙ fold-hash c.args.from c.args.bytes.now
