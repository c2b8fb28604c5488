use Rattle.std.proofs.Common.{◌≡◌, ◌⊎◌, inl, inr, ℕ, length, refl}
use Rattle.nvm_model.specs.declared.fault.NvmFault.{NvmFault}
use Rattle.seq_store.specs.declared.fault.StoreFault.{StoreFault}
use Rattle.seq_store.specs.declared.fault.StoreFault.TheVariants.{Unformatted, Memory, NoMemory}
use Rattle.install_run.proofs.Sounding.{only_memory, sized}
use Rattle.install_run.proofs.power.started.Goals as goal

pub start-requires : goal.start-requires
start-requires c = record { size = sized (length c.args.config.lanes) c.args.memory.octets.items c.requires.sound }

neither : (fault : StoreFault) → ((place : ℕ) × (fault ≡ Unformatted place))
    ⊎ ((cause : NvmFault) × (fault ≡ Memory cause)) → fault ≡ NoMemory → ⊥
neither fault (inl (place, is)) only = cc
neither fault (inr (cause, is)) only = cc

pub unreachable-requires : goal.unreachable-requires
unreachable-requires c =
    neither c.in-Err.refused.fault c.in-Unformatted.is
    (only_memory (length c.args.config.lanes) c.args.memory.octets.items c.in-Err.refused.fault c.requires.sound
    c.in-Err.ensures.unformatted (c.in-Err.ensures.refused.told refl c.requires.powered))
