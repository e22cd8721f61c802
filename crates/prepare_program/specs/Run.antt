-- What a run writes and reads.
use Rattle.std.specs.Prelude.{◌≡◌, ◌⊎◌, ◌<◌, ◌+◌, ℕ, length, take, drop, Option, Some, string_bytes}
use Rattle.std.specs.Io.KnownBytes.{Appends}
use Rattle.js_term.specs.Term.{Text}
use Rattle.prepare_program.specs.declared.answering.Line.{Line}
use Rattle.prepare_program.specs.declared.answering.Line.TheVariants as rust
use Rattle.prepare_program.specs.Report.{Reports, Refuses}

-- the most bytes of a request
abbrev pub limit : ℕ
limit = 8388608

-- the line answers the request in these bytes
abbrev pub IsAnswer : Text → Line → Type 0
IsAnswer bytes (rust.Report text) = Reports bytes (string_bytes text)
IsAnswer bytes (rust.Refusal text) = Refuses bytes (string_bytes text)

abbrev pub Answers : Text → Text → Type 0
Answers bytes line = Reports bytes line ⊎ Refuses bytes line

-- a line that says this was written whole
pub record Writes (Says : Text → Type 0) (old new : Option Text) : Type 0 where
  pub line : Text
  pub says : Says line
  pub appended : Appends old new line

-- a proper front of such a line was written
pub record Begins (Says : Text → Type 0) (old new : Option Text) : Type 0 where
  pub line : Text
  pub says : Says line
  pub count : ℕ
  pub proper : count < length line
  pub appended : Appends old new (take count line)

-- more bytes were given than the limit, and one more than the limit was taken
pub record Overruns (new : Option Text) (given : Text) : Type 0 where
  pub beyond : limit < length given
  pub taken : new ≡ Some (drop (limit + 1) given)
