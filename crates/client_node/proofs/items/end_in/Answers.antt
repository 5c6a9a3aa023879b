use Rattle.std.proofs.Common.{ap}
use Rattle.group_inputs.specs.Events.{client_input}
use Rattle.client_node.proofs.ReadItems.{no_end}
use Rattle.client_node.proofs.items.end_in.Goals as goal

pub returns-in-Frame : goal.returns-in-Frame
returns-in-Frame c = no_end (ap client_input c.in-Frame.is) tt

pub returns-in-Register : goal.returns-in-Register
returns-in-Register c = no_end (ap client_input c.in-Register.is) tt

pub returns-in-Ping : goal.returns-in-Ping
returns-in-Ping c = no_end (ap client_input c.in-Ping.is) tt

pub returns-in-Pull : goal.returns-in-Pull
returns-in-Pull c = no_end (ap client_input c.in-Pull.is) tt

pub returns-in-Crash : goal.returns-in-Crash
returns-in-Crash c = no_end (ap client_input c.in-Crash.is) tt

pub returns-in-Restart : goal.returns-in-Restart
returns-in-Restart c = no_end (ap client_input c.in-Restart.is) tt
