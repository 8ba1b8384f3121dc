-- What the plain numbers of a sending stand for.
use Rattle.std.specs.Prelude.{◌≡◌, length}
use Rattle.phy.specs.declared.sending.Sending.TheInside.{Inside}
use Rattle.phy.specs.OnItsWay.{OnItsWay, all_symbols}
use Rattle.phy.specs.InStep.{InStep}

-- the frame that it sends, and how far that is
abbrev pub on_its_way : Inside → OnItsWay
on_its_way s = record { rate = s.header.rate; seed = s.seed; octets = s.bytes.now; written = s.written }

-- a sending's other numbers are those of this frame, so far
pub record Sends (s : Inside) : Type 0 where
  pub long : s.header.length ≡ length s.bytes.now
  pub in_all : s.total ≡ all_symbols (on_its_way s)
  pub in_step : InStep (on_its_way s) s.register s.state
