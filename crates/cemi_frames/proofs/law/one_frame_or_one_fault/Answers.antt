use Rattle.cemi_frames.proofs.Message.{first_misfit}
use Rattle.cemi_frames.proofs.OneAnswer.{one_answer, read_as_it_is}
use Rattle.cemi_frames.proofs.law.one_frame_or_one_fault.Goals as goal

pub returns-clause-one : goal.returns-clause-one
returns-clause-one c = one_answer

pub returns-clause-read : goal.returns-clause-read
returns-clause-read c = read_as_it_is

pub returns-clause-first : goal.returns-clause-first
returns-clause-first c = first_misfit
