use Rattle.nvm_model.proofs.Lists.{strike-append}
use Rattle.seq_store.proofs.RaiseLaws.{raises_whole}
use Rattle.seq_store.proofs.Formatted.{formatted_law}
use Rattle.seq_store.proofs.Strikes.{strike_reached}
use Rattle.seq_store.proofs.law.layout_laws.Goals as goal

pub returns-clause-raises : goal.returns-clause-raises
returns-clause-raises c = raises_whole

pub returns-clause-formatted : goal.returns-clause-formatted
returns-clause-formatted c = formatted_law

pub returns-clause-strikes : goal.returns-clause-strikes
returns-clause-strikes c = strike-append

pub returns-clause-struck : goal.returns-clause-struck
returns-clause-struck c = strike_reached
