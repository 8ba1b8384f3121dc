use Rattle.phy.proofs.Hearing.{sent_symbols_are_heard}
use Rattle.phy.proofs.telling.sent_symbols_are_heard.Goals as goal

pub returns : goal.returns
returns c = sent_symbols_are_heard
