-- The commands' names.
use Rattle.std.specs.Prelude.{ℕ, List, codes}
use Rattle.lines.specs.declared.names.Command.{Command}
use Rattle.lines.specs.declared.names.Command.TheVariants.{Day, List as ListCommand, Bell, Trade, Auction, Leg, Spread, Quote, Theory, Ruling, Settle}

abbrev pub command_name : Command → List ℕ
command_name Day = codes "day"
command_name ListCommand = codes "list"
command_name Bell = codes "bell"
command_name Trade = codes "trade"
command_name Auction = codes "auction"
command_name Leg = codes "leg"
command_name Spread = codes "spread"
command_name Quote = codes "quote"
command_name Theory = codes "theory"
command_name Ruling = codes "ruling"
command_name Settle = codes "settle"
