use Rattle.std.proofs.Common.{sym, ◌∙◌, ◌++◌, ◌∷◌, []}
use Rattle.key_tables.specs.declared.types.Channel.TheVariants as channel
use Rattle.key_tables.specs.declared.types.Row.TheVariants as row
use Rattle.keyring_reader.proofs.HoldingLemmas.{taken_once, not_known, one_device}
use Rattle.keyring_reader.proofs.gathered.Gathered.add_device.Goals as goal

pub returns-clause-added : goal.returns-clause-added
returns-clause-added c = λ contents holds. (
  record { rows = contents.rows ++ row.Tool c.args.device c.args.key ∷ []; listings = contents.listings },
  taken_once contents c.args.place (channel.Tool c.args.device) (row.Tool c.args.device c.args.key)
      (sym (holds.device_known c.args.device) ∙ not_known _ _ c.in_ok-insert.ensures.added c.if-not-branch.false),
  one_device c.args.self.now c.push.new.self c.insert.new.self contents c.args.device c.args.key holds
      c.in_ok-push.ensures.items
      c.in_ok-insert.ensures.keys c.in_ok-insert.ensures.updates.0,
)
