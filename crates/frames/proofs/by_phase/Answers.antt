-- `frames::by_phase` meets its contract.
use Rattle.bus.proofs.Lengths.{sized_of}
use Rattle.frames.proofs.Steps.{phase_idle, phase_vbus, phase_reset, phase_talks}
use Rattle.frames.proofs.by_phase.Goals as goal

pub returns-in-Idle-clause-left : goal.returns-in-Idle-clause-left
returns-in-Idle-clause-left c = phase_idle _ _ _ _ _ _ _ _ (sized_of c.args.windows.now) c.in-Idle.is c.idle.ensures

pub returns-in-Vbus-clause-left : goal.returns-in-Vbus-clause-left
returns-in-Vbus-clause-left c = phase_vbus _ _ _ _ _ _ _ _ (sized_of c.args.windows.now) c.in-Vbus.is c.vbus.ensures

pub returns-in-Reset-clause-left : goal.returns-in-Reset-clause-left
returns-in-Reset-clause-left c = phase_reset _ _ _ _ _ _ _ _ (sized_of c.args.windows.now) c.in-Reset.is _ c.reset.ensures

pub returns-in_default-clause-left : goal.returns-in_default-clause-left
returns-in_default-clause-left c = phase_talks _ _ _ _ _ _ _ _ _ c.in_default.not-Idle c.in_default.not-Vbus c.in_default.not-Reset c.connected.ensures.left
