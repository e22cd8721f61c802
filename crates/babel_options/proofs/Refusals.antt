-- A refusal for the first of two errors that there is.
use Rattle.std.proofs.Common.{◌≡◌, Option, None, Some, ap, sym, ◌∙◌, subst}
use Rattle.std.specs.Option.{option_or}
use Rattle.babel_options.specs.Plugins.{Text, RefusesOnce}
use Rattle.babel_options.specs.declared.fault.OptionsFault.{OptionsFault}
use Rattle.babel_options.specs.declared.fault.OptionsFault.TheVariants.{Refused, NoMemory}

pub refuses_first : (a b : Option Text) (fault : OptionsFault) → RefusesOnce a fault → RefusesOnce (option_or a b) fault
refuses_first a b NoMemory refuses = tt
refuses_first None b (Refused errors) refuses = absurd (cc)
refuses_first (Some error) b (Refused errors) refuses = refuses

pub refuses_later : (a b : Option Text) (fault : OptionsFault) → a ≡ None → RefusesOnce b fault → RefusesOnce (option_or a b) fault
refuses_later a b fault none refuses = subst (λ (first : Option Text). RefusesOnce (option_or first b) fault) (sym none) refuses

pub no_error : (a b : Option Text) → a ≡ None → b ≡ None → option_or a b ≡ None
no_error a b none no_later = ap (λ (first : Option Text). option_or first b) none ∙ no_later
