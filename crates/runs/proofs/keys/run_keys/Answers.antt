use Rattle.std.proofs.Common.{length}
use Rattle.std.proofs.lemmas.Result.{on_ok_weaker}
use Rattle.runs.proofs.RunLemmas.KeyRoom.{refused_where_full}
use Rattle.runs.proofs.keys.run_keys.Goals as goal

-- of what the calls do the room alone is said
pub returns-clause-run : goal.returns-clause-run
returns-clause-run g c =
    on_ok_weaker c.run_by.result
    (λ (replies, are, each, done, run). (
      replies,
      are,
      each,
      refused_where_full _ g.C.KeyExpCollection.room (λ c. length (g.C.KeyExpCollection.stored c)) (λ reply calls c calls' c' keeps. keeps) replies _ c.args.c.now _ c.run_by.new.c done,
      run,
    ))
    c.run_by.ensures.run
