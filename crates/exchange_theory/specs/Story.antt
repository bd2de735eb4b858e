-- What a run tells by its calls and answers alone, never by the cells: serials, trees, and how far each program has come.
use Rattle.std.specs.Prelude.{ℕ, ◌+◌, Bool, true, false, cond, ◌&&◌, List, Some, None, Ok, Err, Option, Result, ◌==◌}
use Rattle.keeper.specs.declared.outcome.Outcome.{Outcome}
use Rattle.keeper.specs.declared.outcome.Outcome.TheVariants.{GoesOn, Opened, Accepted, Stale, Nothing, HandedOut}
use Rattle.keeper.specs.declared.fault.Fault.{Fault}
use Rattle.cells_theory.specs.Trees.{Tree, empty, number, node, child}
use Rattle.exchange_theory.specs.declared.calls.Source.{Source}
use Rattle.exchange_theory.specs.declared.calls.Source.TheVariants as source
use Rattle.exchange_theory.specs.declared.calls.Call.{Call}
use Rattle.exchange_theory.specs.declared.calls.Call.TheVariants.{Open, Publish, Close, Step, Root, Down, Look, Build, Sweep}
use Rattle.exchange_theory.specs.declared.calls.Answer.{Answer}
use Rattle.exchange_theory.specs.declared.calls.Answer.TheVariants as answer
use Rattle.exchange_theory.specs.Building.{src}

-- what a program has begun and not yet ended
pub data Task : Type 0 where
  resting : Task
  opening : Task
  publishing : Task
  closing : Task

pub record Story (T : Type 0) : Type 0 where
  -- the number of publishes accepted, which is the current serial
  pub current : ℕ
  -- the tree of each version
  pub version : ℕ → Tree T
  -- the tree in each reading and building place, by program and place: empty where the place is
  pub reading : ℕ → ℕ → Tree T
  pub building : ℕ → ℕ → Tree T
  -- the serial that a program's open ended on, until it calls close
  pub opened : ℕ → Option ℕ
  -- the current serial when a program last called open
  pub since : ℕ → ℕ
  -- the building place that a program last offered
  pub offers : ℕ → ℕ
  -- what a program is about, and the accepted steps that it has taken since it called for it
  pub task : ℕ → Task
  pub taken : ℕ → ℕ
  -- whether a serial was handed out
  pub gone : ℕ → Bool

-- f, but x at i
abbrev pub at : {A : Type 0} → (ℕ → A) → ℕ → A → ℕ → A
at f i x j = cond (j == i) x (f j)

-- f, but x at place a of program p
abbrev pub at_place : {A : Type 0} → (ℕ → ℕ → A) → ℕ → ℕ → A → ℕ → ℕ → A
at_place f p a x q b = cond (q == p && b == a) x (f q b)

-- at the making: version 0 is the leaf with four empty fields, all places are empty, no program is about anything
abbrev pub start : {T : Type 0} → T → Story T
start leaf = record {
  current = 0;
  version = λ s. node leaf empty empty empty empty;
  reading = λ p a. empty;
  building = λ p b. empty;
  opened = λ p. None;
  since = λ p. 0;
  offers = λ p. 0;
  task = λ p. resting;
  taken = λ p. 0;
  gone = λ s. false;
}

-- program p called open
abbrev pub calls_open : {T : Type 0} → ℕ → Story T → Story T
calls_open p S = record S { since = at S.since p S.current; task = at S.task p opening; taken = at S.taken p 0 }

-- program p called publish of building place b
abbrev pub calls_publish : {T : Type 0} → ℕ → ℕ → Story T → Story T
calls_publish p b S = record S { offers = at S.offers p b; task = at S.task p publishing; taken = at S.taken p 0 }

-- program p called close: its places are empty from now on
abbrev pub calls_close : {T : Type 0} → ℕ → Story T → Story T
calls_close p S = record S { reading = at S.reading p (λ a. empty); building = at S.building p (λ b. empty); opened = at S.opened p None; task = at S.task p closing; taken = at S.taken p 0 }

-- program p took a step, after which it is about t
abbrev pub takes : {T : Type 0} → ℕ → Task → Story T → Story T
takes p t S = record S { task = at S.task p t; taken = at S.taken p (S.taken p + 1) }

-- program p's open ended on s
abbrev pub ends_open : {T : Type 0} → ℕ → ℕ → Story T → Story T
ends_open p s S = record S { opened = at S.opened p (Some s) }

-- program p's publish was accepted: the next version has the tree of the offered place, which becomes empty
abbrev pub ends_accepted : {T : Type 0} → ℕ → Story T → Story T
ends_accepted p S = record S { current = S.current + 1; version = at S.version (S.current + 1) (S.building p (S.offers p)); building = at_place S.building p (S.offers p) empty }

-- s was handed out
abbrev pub hands_out : {T : Type 0} → ℕ → Story T → Story T
hands_out s S = record S { gone = at S.gone s true }

-- a tree was put into reading place a of program p
abbrev pub reads : {T : Type 0} → ℕ → ℕ → Tree T → Story T → Story T
reads p a x S = record S { reading = at_place S.reading p a x }

-- a tree was put into building place b of program p
abbrev pub builds : {T : Type 0} → ℕ → ℕ → Tree T → Story T → Story T
builds p b x S = record S { building = at_place S.building p b x }

-- what an accepted step of program p tells
abbrev pub tell_step : {T : Type 0} → ℕ → Outcome → Story T → Story T
tell_step p GoesOn S = takes p (S.task p) S
tell_step p (Opened s) S = ends_open p s (takes p resting S)
tell_step p (Accepted t) S = ends_accepted p (takes p resting S)
tell_step p Stale S = takes p resting S
tell_step p Nothing S = takes p resting S
tell_step p (HandedOut s) S = hands_out s (takes p resting S)

-- a step is told by its answer
abbrev pub tell_answer : {T : Type 0} → ℕ → Answer T → Story T → Story T
tell_answer p (answer.Stepped o) S = tell_step p o S
tell_answer p a S = S

-- the tree of the version that a program opened, empty where it has none open
abbrev pub tree_of : {T : Type 0} → Story T → Option ℕ → Tree T
tree_of S None = empty
tree_of S (Some s) = S.version s

-- the tree that a source of program p stands for
abbrev pub sourced : {T : Type 0} → Story T → ℕ → Source → Tree T
sourced S p source.Empty = empty
sourced S p (source.Number n) = number n
sourced S p (source.Reading a) = S.reading p a
sourced S p (source.Building b) = S.building p b

-- the tree that a build makes of a leaf and sources
abbrev pub tree_from : {T : Type 0} → Story T → ℕ → List Source → T → Tree T
tree_from S p ss leaf = node leaf (sourced S p (src ss 0)) (sourced S p (src ss 1)) (sourced S p (src ss 2)) (sourced S p (src ss 3))

-- what a call tells with its answer: a refused call tells nothing
abbrev pub tell : {T : Type 0} → Call T → Result (Answer T) Fault → Story T → Story T
tell c (Err f) S = S
tell (Open p) (Ok a) S = calls_open p S
tell (Publish p b) (Ok a) S = calls_publish p b S
tell (Close p) (Ok a) S = calls_close p S
tell (Step p) (Ok a) S = tell_answer p a S
tell (Root p a) (Ok x) S = reads p a (tree_of S (S.opened p)) S
tell (Down p a k b) (Ok x) S = reads p b (child k (S.reading p a)) S
tell (Look p a) (Ok x) S = S
tell (Build p b ss leaf) (Ok x) S = builds p b (tree_from S p ss leaf) S
tell Sweep (Ok x) S = S
