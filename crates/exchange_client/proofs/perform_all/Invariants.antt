-- The calls so far were performed, and no more were refused than there were calls.
use Rattle.std.proofs.Common.{◌≤◌, List, take}
use Rattle.exchange_theory.specs.History.{Event, Reached}
use Rattle.exchange_theory.specs.Promises.{Promises}
use Rattle.exchange.specs.Worlds.{world_of}
use Rattle.exchange_client.specs.Rows.{Performed}
use Rattle.exchange_client.proofs.perform_all.Given as goal

abbrev pub invariant-loop-call : goal.invariant-loop-call
invariant-loop-call g l =
    (l.refused ≤ l.call-index)
    × ((leaf : g.row.T.Denot) (h : List (Event g.row.T.Denot))
    → Reached leaf h (world_of g.K.Enquiry.meaning l.initial.exchange l.initial.cells l.initial.leaves)
    → Promises leaf h (world_of g.K.Enquiry.meaning l.initial.exchange l.initial.cells l.initial.leaves)
    → Performed leaf h (take l.call-index l.calls) l.refused (world_of g.K.Enquiry.meaning l.exchange l.cells l.leaves))
