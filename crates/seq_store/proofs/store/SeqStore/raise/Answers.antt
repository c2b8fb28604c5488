use Rattle.std.proofs.Common.{◌≡◌, length, ◌∙◌}
use Rattle.seq_store.proofs.Raises.{may_raise}
use Rattle.seq_store.proofs.store.SeqStore.raise.Goals as goal

pub raise_value-requires : goal.raise_value-requires
raise_value-requires g c =
    let lanes : c.len-lanes.result ≡ length c.args.self.now.marks.items =
    c.len-lanes.ensures ∙ c.args.self.now.marks.ok.0 in
    record {
      may = rw lanes (may_raise _ c.args.self.now.marks.items c.args.self.now.reserved
          (c.args.self.now.agrees c.requires.sound)
          c.args.lane c.args.number c.args.self.now.lanes_fit c.requires.in_range c.requires.above c.get.ensures.fits);
    }
