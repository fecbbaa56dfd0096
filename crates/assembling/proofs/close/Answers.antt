-- `assembling::close` meets its contract.
use native.Mathlib.Omega.{arith}
use lib.ListN.{length-take}
use Rattle.assembling.proofs.Closing.{size_is, closed-front}
use Rattle.assembling.proofs.close.Goals as goal

pub slice_bounds-close_file-end-2 : goal.slice_bounds-close_file-end-2
slice_bounds-close_file-end-2 c = simp length-take (omega arith)

pub close_file-requires : goal.close_file-requires
close_file-requires c = simp length-take (omega arith)

pub returns : goal.returns
returns c =
    let header = c.header_of-header in
    let left = rw header.ensures at c.close_file.ensures in record { value = λ d knows whole stored. (size_is d _ knows whole, closed-front d _ knows whole c.args.file.now _ _ c.requires.0 stored left); upper_bound = omega (arith, c.requires.1, c.requires.2) }
