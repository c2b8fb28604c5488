use Rattle.install_run.proofs.Lawful.{keeps_laws, goes_by_rules}
use Rattle.install_run.proofs.world.World.keeps_laws.Goals as goal

pub returns : goal.returns
returns c = record {
  laws = keeps_laws c.self.inside.rows.items c.self.inside.nodes.items c.self.inside.places.items
      c.self.inside.air.items c.self.inside.steps.items c.args.self.now c.self.invariant c.self.view_is;
  rules = goes_by_rules c.self.inside.rows.items c.self.inside.nodes.items c.self.inside.places.items
      c.self.inside.air.items c.self.inside.steps.items c.args.self.now c.self.invariant c.self.view_is;
}
