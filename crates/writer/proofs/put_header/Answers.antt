-- `writer::put_header` meets its contract: after each store the block begins with more of the header's numbers, and at the end with all of
-- them, which is computed.
use mathlib.Core.Path.{refl, ap, ◌∙◌}
use native.Mathlib.Omega.{arith}
use Rattle.block.specs.Bytes.{le, les, packed}
use Rattle.block.specs.Blocks.{numbered}
use Rattle.block.proofs.Storing.{stored-none, stored-first, stored_more, stored-number}
use Rattle.taskfile.specs.File.{header_numbers}
use Rattle.writer.proofs.put_header.Goals as goal

pub returns : goal.returns
unfolding header_numbers packed les le
returns c =
    let args = c.args in
    let s₁ = stored-number 2 1 (stored-none 0 args.block.now (omega arith)) c.put_u16.ensures in
    let s₂ = stored-number 2 args.blocks s₁ c.put_u16-2.ensures in
    let s₃ = stored-number 2 args.preempters s₂ c.put_u16-3.ensures in
    let s₄ = stored-number 2 args.header.line_count s₃ c.put_u16-4.ensures in
    let s₅ = stored_more _ _ s₄ refl c.put_u32s.ensures in
    c.close_body.ensures ∙ ap (numbered 0) (stored-first s₅)
