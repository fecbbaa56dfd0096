-- `cacheline::geometry_of` meets its contract: the numbers are the header's.
use mathlib.Core.Path.{ap}
use Rattle.model.specs.declared.Header.{Header}
use Rattle.cacheline.proofs.Ranges.{scratch-ends}
use Rattle.cacheline.proofs.geometry_of.Goals as goal

pub returns : goal.returns
returns c =
    let read = c.header-header.ensures in
    record {
      sound = record { some = read.1; most = read.2; divides = c.divider_by.ensures; masks = c.mask_by.ensures };
      count = ap (λ (h : Header). h.line_count) read.0;
      first = ap (λ (h : Header). h.scratch.first) read.0;
      bypassing = ap (λ (h : Header). h.scratch.count) read.0;
      ends = rw read.0 (scratch-ends c.args.file.now c.requires);
    }
