use Rattle.std.proofs.Common.{arith, subst}
use Rattle.vd_control.specs.Settings.{has_vlan}
use Rattle.vd_control.proofs.ComesBack.{commands_come_back, bytes_come_back, folds_come_back}
use Rattle.vd_control.proofs.Lawful.{IsSettings, IsWords-words_of}
use Rattle.vd_control.proofs.Words.{IsWords}
use Rattle.vd_control.proofs.replay.replay_comes_back.Goals as goal
use Rattle.vd_control.proofs.replay.replay_comes_back.Goals.{After-words_come_back}

lawful : (c : After-words_come_back) → IsSettings c.args.s.now
lawful c = record {
  flags = omega arith;
  mac = omega arith;
  vlans = subst IsWords c.words_come_back.ensures (IsWords-words_of (has_vlan c.args.s.now.vlans));
  pairs = c.requires;
  offloads = omega arith;
}

pub returns-clause-commands : goal.returns-clause-commands
returns-clause-commands c = commands_come_back c.args.s.now (lawful c)

pub returns-clause-bytes : goal.returns-clause-bytes
returns-clause-bytes c = bytes_come_back c.args.s.now (lawful c)

pub returns-clause-folds : goal.returns-clause-folds
returns-clause-folds c = folds_come_back
