-- The call on the book that a command asks for. Assumes nothing.
use Rattle.book.specs.declared.call.Call.{Call}
use Rattle.book.specs.declared.call.Call.TheVariants as call
use Rattle.console.specs.declared.command.Command.{Command}
use Rattle.console.specs.declared.command.Command.TheVariants.{New, Enrol, Read, Post, PayIn, Publish, Object, Answer, WhatIf, AccountSums, Settle}

abbrev pub call_of : Command → Call
call_of (New year month choice) = call.New year month
call_of (Enrol number kind capacity) = call.Enrol number kind capacity
call_of (Read reading) = call.Read reading
call_of (Post event) = call.Post event
call_of (PayIn amount) = call.PayIn amount
call_of Publish = call.Publish
call_of (Object place) = call.Object place
call_of (Answer place upheld) = call.Answer place upheld
call_of (WhatIf place) = call.WhatIf place
call_of (AccountSums party) = call.AccountSums party
call_of Settle = call.Settle
