-- The jobs that the scheduler returns by value.
use Rattle.std.specs.Prelude.{ℕ, Option, Some, None}
use Rattle.mote_types.specs.declared.event.Pid.{Pid}
use Rattle.mote_types.specs.declared.event.Stimulus.{Stimulus}
use Rattle.process_core.specs.Agenda.{Job}
use Rattle.process_core.specs.declared.job.Job as asked
use Rattle.process_core.specs.declared.next_job.NextJob.{NextJob}

-- the agenda's job
abbrev pub job_asked : asked.Job → Job ℕ
job_asked (asked.Job.Give pid origin stimulus) = Job.TakeTurn pid.0 origin stimulus
job_asked (asked.Job.Serve pid event) = Job.Serve pid.0 event
job_asked (asked.Job.Callback pid number arming) = Job.CallBack pid.0 number arming
job_asked asked.Job.Round = Job.Round
job_asked asked.Job.Rest = Job.Rest

-- whose turn it is after this job
abbrev pub turn_asked : asked.Job → Option Pid
turn_asked (asked.Job.Give pid origin stimulus) = Some pid
turn_asked _ = None

-- the callback timer whose expiry this job is
abbrev pub callback_asked : asked.Job → Option (Pid × ℕ)
callback_asked (asked.Job.Callback pid number arming) = Some (pid, number)
callback_asked _ = None

-- a kernel process gets the event in the buffer, which holds one wherever `next_to` returns Serve
abbrev pub served_with : Pid → Stimulus → asked.Job
served_with pid (Stimulus.Event event) = asked.Job.Serve pid event
served_with pid _ = asked.Job.Rest

-- what a result of `next_to` and the buffer make up
abbrev pub job_with : NextJob → Stimulus → asked.Job
job_with (NextJob.TakeTurn pid origin) stimulus = asked.Job.Give pid origin stimulus
job_with (NextJob.Serve pid) stimulus = served_with pid stimulus
job_with (NextJob.Hear pid) stimulus = served_with pid stimulus
job_with (NextJob.CallBack pid number arming) stimulus = asked.Job.Callback pid number arming
job_with NextJob.Round stimulus = asked.Job.Round
job_with NextJob.Rest stimulus = asked.Job.Rest
