use Rattle.std.proofs.Common.{rules}
use Rattle.carriers.proofs.Demapping.{wrote_one, wrote_two, wrote_three}
use Rattle.carriers.proofs.demapper.demap_axis.Goals as goal

pub returns-in-Bpsk : goal.returns-in-Bpsk
returns-in-Bpsk c = search (rules, wrote_one)

pub returns-in-Qam16 : goal.returns-in-Qam16
returns-in-Qam16 c = search (rules, wrote_two)

pub returns-in-Qam64 : goal.returns-in-Qam64
returns-in-Qam64 c = search (rules, wrote_three)
