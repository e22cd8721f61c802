-- The contexts of the rules, as the code holds them.
use Rattle.js_syntax.specs.Super.{Super, Home}
use Rattle.js_syntax.specs.ModuleTree.{Leave, Initializers}
use Rattle.js_rules.specs.declared.leave.Leave as leave
use Rattle.js_rules.specs.declared.home.Super as super
use Rattle.js_rules.specs.declared.home.Super.TheVariants as forms
use Rattle.js_rules.specs.declared.home.Home as home
use Rattle.js_rules.specs.declared.initializers.Initializers as initializers
use Rattle.js_rules.specs.declared.initializers.Initializers.TheVariants as initialized

abbrev pub leave_of : leave.Leave → Leave
leave_of l = record { awaits = l.awaits; yields = l.yields; returns = l.returns; has_target = l.has_target }

abbrev pub super_of : super.Super → Super
super_of forms.Nowhere = Super.nowhere
super_of forms.AsObject = Super.as_object
super_of forms.AsCallee = Super.as_callee

abbrev pub home_of : home.Home → Home
home_of h = record { here = super_of h.here; function = super_of h.function; constructor = super_of h.constructor }

abbrev pub initializers_of : initializers.Initializers → Initializers
initializers_of initialized.OfAll = Initializers.of_all
initializers_of initialized.OfPatterns = Initializers.of_patterns
initializers_of initialized.OfNone = Initializers.of_none
initializers_of initialized.InHead = Initializers.in_head
