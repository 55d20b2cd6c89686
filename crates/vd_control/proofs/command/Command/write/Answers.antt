-- In each arm the bytes are those of the command, so they are read as it.
use Rattle.std.proofs.Common.{rules}
use Rattle.vd_control.proofs.Bytes.{reads_back}
use Rattle.vd_control.proofs.command.Command.write.Goals as goal

pub returns-in-Rx-clause-back : goal.returns-in-Rx-clause-back
returns-in-Rx-clause-back c = reads_back c.bytes_of.result.items c.args.self.now (search rules) c.requires

pub returns-in-Mac-clause-back : goal.returns-in-Mac-clause-back
returns-in-Mac-clause-back c = reads_back c.bytes_of-in-Mac.result.items c.args.self.now (search rules) c.requires

pub returns-in-VlanAdd-clause-back : goal.returns-in-VlanAdd-clause-back
returns-in-VlanAdd-clause-back c = reads_back c.bytes_of-in-VlanAdd.result.items c.args.self.now (search rules) c.requires

pub returns-in-VlanDel-clause-back : goal.returns-in-VlanDel-clause-back
returns-in-VlanDel-clause-back c = reads_back c.bytes_of-in-VlanDel.result.items c.args.self.now (search rules) c.requires

pub returns-in-Pairs-clause-back : goal.returns-in-Pairs-clause-back
returns-in-Pairs-clause-back c = reads_back c.bytes_of-in-Pairs.result.items c.args.self.now (search rules) c.requires

pub returns-in-Offloads-clause-back : goal.returns-in-Offloads-clause-back
returns-in-Offloads-clause-back c = reads_back c.bytes_of-in-Offloads.result.items c.args.self.now (search rules) c.requires
