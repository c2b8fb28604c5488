use Rattle.std.proofs.Common.{sym, ◌∙◌, ◌++◌, ◌∷◌, []}
use Rattle.key_tables.specs.declared.types.Channel.TheVariants as channel
use Rattle.key_tables.specs.declared.types.Level.TheVariants.{Auth}
use Rattle.key_tables.specs.declared.types.Row.TheVariants as row
use Rattle.keyring_reader.proofs.HoldingLemmas.{taken_once, not_known, one_group}
use Rattle.keyring_reader.proofs.gathered.Gathered.add_group.Goals as goal

pub returns-clause-added : goal.returns-clause-added
returns-clause-added c = λ contents holds. (
  record { rows = contents.rows ++ row.Group c.args.group c.args.key Auth ∷ []; listings = contents.listings },
  taken_once contents c.args.place (channel.Group c.args.group) (row.Group c.args.group c.args.key Auth)
      (sym (holds.group_known c.args.group) ∙ not_known _ _ c.in_ok-insert.ensures.added c.if-not-branch.false),
  one_group c.args.self.now c.push.new.self c.insert.new.self contents c.args.group c.args.key holds
      c.in_ok-push.ensures.items
      c.in_ok-insert.ensures.keys c.in_ok-insert.ensures.updates.0,
)
