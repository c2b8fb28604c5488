use Rattle.std.proofs.Common.{◌≡◌, ◌∙◌, length, sym, ap}
use Rattle.nvm_model.specs.SimNvm.{sim_state}
use Rattle.node_core.specs.Node.{config_state, node_state}
use Rattle.node_core.specs.Standing.{ConfigState}
use Rattle.install_run.proofs.Beginning.{formatted_sound, first_is}
use Rattle.install_run.proofs.place.Place.first.Goals as goal

pub started-requires-clause-sound : goal.started-requires-clause-sound
started-requires-clause-sound c =
    let each : length c.args.node.now.marks ≡ length (config_state c.in_ok-config.config).lanes
    = c.requires.node.marks ∙ sym (ap (λ (config : ConfigState). length config.lanes) c.in_ok-config.ensures.config) in
    formatted_sound c.args.node.now (length (config_state c.in_ok-config.config).lanes)
    (sim_state c.in_ok-memory.memory) c.in_ok-memory.ensures.formatted each

pub returns-in-Ok : goal.returns-in-Ok
returns-in-Ok c =
    let each : length c.args.node.now.marks ≡ length (config_state c.in_ok-config.config).lanes
    = c.requires.node.marks ∙ sym (ap (λ (config : ConfigState). length config.lanes) c.in_ok-config.ensures.config) in
    let node = first_is c.args.rows.now c.args.node.now (config_state c.in_ok-config.config)
    (sim_state c.in_ok-memory.memory) (node_state c.in-Ok.started)
    c.in_ok-config.ensures.config each c.in_ok-memory.ensures.formatted c.in-Ok.ensures.started
    c.in-Ok.ensures.memory in
    let same = c.in-Ok.ensures.memory in
    record {
      place = λ i. record {
        node = node i;
        counts = (same.counts ∙ c.in_ok-memory.ensures.formatted.counts) i;
        journal = c.new.ensures.items i;
      };
    }
