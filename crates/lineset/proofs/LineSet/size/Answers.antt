-- `LineSet::size` meets its contract: the set digits of all words are as many as the lines, so at most 512.
use Rattle.std.proofs.Common.{rules, ◌≡◌, ◌∙◌, ◌<◌, ◌^◌, sym}
use Rattle.std.specs.Prelude.{sum_by, count_ones}
use Rattle.model.proofs.Sets.{Eight, fits_word}
use Rattle.lineset.proofs.Laws.{size-words, ones-fit}
use Rattle.lineset.proofs.LineSet.size.Goals as goal

pub sum-requires-clause-fits : goal.sum-requires-clause-fits
sum-requires-clause-fits c =
    let words = c.args.self.words in
    let eight : Eight words = search (rules, fits_word) in
    let fits : sum_by count_ones words < 2 ^ 32 = ones-fit words eight in search rules

pub returns : goal.returns
returns c =
    let words = c.args.self.words in
    let eight : Eight words = search (rules, fits_word) in
    let all : c.sum.result ≡ sum_by count_ones words = search rules in
    all ∙ sym (size-words words eight)
