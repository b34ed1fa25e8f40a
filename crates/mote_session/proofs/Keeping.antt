-- A promise that holds once a history is known.
use Rattle.std.proofs.Common.{Result, Ok, Err, IfOk}
use Rattle.mote_session.specs.History.{History}
use Rattle.mote_session.specs.SessionRuns.{IsHistoryOf, KeepsPromise, SessionPromise}
use Rattle.mote_session.specs.SessionView.{SessionView}

pub keeps : {history : History} {session : SessionView} →
    ((history : History) (session : SessionView) → IsHistoryOf history session → SessionPromise history session) →
    IsHistoryOf history session → KeepsPromise history session
keeps {history} {session} law is = (is, law history session is)

pub if_ok : {A E : Type 0} {P Q : A → Type 0} (r : Result A E) → ((a : A) → P a → Q a) → IfOk r P → IfOk r Q
if_ok (Ok a) f p = f a p
if_ok (Err e) f p = tt
