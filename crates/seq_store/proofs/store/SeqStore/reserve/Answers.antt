use Rattle.std.proofs.Common.{◌≡◌, ◌<◌, length, ◌∙◌, arith}
use Rattle.std.proofs.lemmas.Bool.Decides.{nat_tests}
use Rattle.seq_store.proofs.Raises.{may_reserve}
use Rattle.seq_store.proofs.store.SeqStore.reserve.Goals as goal

pub raise_value-requires : goal.raise_value-requires
raise_value-requires g c =
    let lanes : c.len-lanes.result ≡ length c.args.self.now.marks.items =
    c.len-lanes.ensures ∙ c.args.self.now.marks.ok.0 in
    let above : c.args.self.now.reserved < c.reservation_for-reservation.result =
    let above = c.reservation_for-reservation.ensures.above in grind (arith, nat_tests) in
    record {
      may = rw lanes (may_reserve _ c.args.self.now.marks.items c.args.self.now.reserved
          (c.args.self.now.agrees c.requires.sound)
          c.reservation_for-reservation.result c.args.self.now.lanes_fit above
          c.reservation_for-reservation.ensures.fits);
    }
