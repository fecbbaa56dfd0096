-- The worked case, by computing. Assumes nothing.
use mathlib.Core.Path.{refl}
use Rattle.model.specs.Sets.{listed, count_below}
use Rattle.model.specs.Lines.{bypasses, line_of, on_line, last_read, first_read, any_read, reads_of, preempter_reads, block_at, state_after, next_read, useful, accessed, evicted}
use Rattle.model.specs.Lists.{regions, every, total, lowest_from}
use Rattle.model.specs.Regions.{union_after, time_after, loaded, region_lines, switch_ticks, region_cost, region_length, armed_after, region_fits}
use Rattle.enumerating.specs.Numbers.{points_after}
use Rattle.enumerating.specs.Search.{next_number, entry_of}
use Rattle.listing.specs.Statements.{Listed, SevenListed}

pub seven-listed : SevenListed
unfolding Listed next_number entry_of points_after lowest_from every total regions region_fits switch_ticks region_cost region_lines region_length time_after armed_after loaded union_after count_below useful accessed evicted state_after next_read last_read first_read any_read reads_of preempter_reads block_at bypasses line_of on_line listed
seven-listed = (refl, (refl, refl))
