-- `usbhost::read_device` meets its contract: behind each test, by the number that the tests give.
use Rattle.std.proofs.Common.{rules, Ok}
use Rattle.usbdev.specs.Access.{reading, refusal}
use Rattle.usbhost.proofs.Outcomes.{read_promise}
use Rattle.usbhost.proofs.read_device.Goals as goal

pub returns-in_err-unless : goal.returns-in_err-unless
unfolding reading refusal
returns-in_err-unless c =
    let a = c.args in
    read_promise a.parts.state a.parts.spans a.parts.packers a.parts.setups.now a.page.now a.off a.size c.from_residual.result (search rules) (search rules)

pub returns-in_err-unless-2 : goal.returns-in_err-unless-2
unfolding reading refusal
returns-in_err-unless-2 c =
    let a = c.args in
    read_promise a.parts.state a.parts.spans a.parts.packers a.parts.setups.now a.page.now a.off a.size c.from_residual-in_err-unless-2.result (search rules) (search rules)

pub returns-in_err-value : goal.returns-in_err-value
unfolding reading refusal
returns-in_err-value c =
    let a = c.args in
    read_promise a.parts.state a.parts.spans a.parts.packers a.parts.setups.now a.page.now a.off a.size c.from_residual-in_err-value.result (search rules) (search rules)

pub returns-in_err-unless-3 : goal.returns-in_err-unless-3
unfolding reading refusal
returns-in_err-unless-3 c =
    let a = c.args in
    read_promise a.parts.state a.parts.spans a.parts.packers a.parts.setups.now a.page.now a.off a.size c.from_residual-in_err-unless-3.result (search rules) (search rules)

pub returns : goal.returns
unfolding reading refusal
returns c =
    let a = c.args in
    read_promise a.parts.state a.parts.spans a.parts.packers a.parts.setups.now a.page.now a.off a.size (Ok c.in_ok-value.value) (search rules) (search rules)
