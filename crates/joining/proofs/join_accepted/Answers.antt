-- `joining::join_accepted` meets its contract: where all rows accept, the joined file is stored.
use Rattle.std.proofs.Common.{sym, arith}
use Rattle.joining.proofs.Tasks.{counts-fit, rows-are, rows-accept}
use Rattle.joining.proofs.join_accepted.Goals as goal

pub put_joined-requires : goal.put_joined-requires
put_joined-requires c =
    let n = c.joined_blocks-blocks.ensures.0 in
    let m = c.joined_preempters-preempters.ensures.0 in
    let all = rows-accept _ _ _ (sym (rows-are _ _ _ n m c.in_ok-check_agree.ensures c.in_ok-check_totals.ensures c.file_size.ensures c.in_ok-check_output.ensures)) in
    let fit = counts-fit _ _ all.room.fit in
    record {
      accepted = c.requires;
      totals = record { blocks = n; preempters = m; fit = (omega (arith, n), omega (arith, m)) };
      out_len = omega (arith, all.room.long, n, m);
    }
