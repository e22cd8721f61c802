-- Sorts and places, as the code holds them.
use Rattle.std.specs.Prelude.{List, [], ◌∷◌}
use Rattle.js_syntax.specs.Sorts.{Sort, Place}
use Rattle.js_rules.specs.declared.sort.Sort as code_sort
use Rattle.js_rules.specs.declared.sort.Sort.TheVariants as sort
use Rattle.js_rules.specs.declared.sort.Place as code_place
use Rattle.js_rules.specs.declared.sort.Place.TheVariants as place
use Rattle.js_rules.specs.declared.places.PlaceList as code_places
use Rattle.js_rules.specs.declared.places.PlaceList.TheVariants as places

abbrev pub sort_seen : code_sort.Sort → Sort
sort_seen (sort.Only k) = Sort.only k
sort_seen sort.ModuleItem = Sort.module_item
sort_seen sort.Statement = Sort.statement
sort_seen sort.Body = Sort.body
sort_seen sort.ForInit = Sort.for_init
sort_seen sort.ForLeft = Sort.for_left
sort_seen sort.ForDeclarator = Sort.for_declarator
sort_seen sort.ImportSpecifier = Sort.import_specifier
sort_seen sort.ExportFromSpecifier = Sort.export_from_specifier
sort_seen sort.ModuleExportName = Sort.module_export_name
sort_seen sort.LocalExportName = Sort.local_export_name
sort_seen sort.Exported = Sort.exported
sort_seen sort.ExportedDefault = Sort.exported_default
sort_seen sort.ArrowBody = Sort.arrow_body
sort_seen sort.Method = Sort.method
sort_seen sort.PlainMethod = Sort.plain_method
sort_seen sort.ClassElement = Sort.class_element
sort_seen sort.ClassKey = Sort.class_key
sort_seen sort.Pattern = Sort.pattern
sort_seen sort.PatternElement = Sort.pattern_element
sort_seen sort.ObjectRest = Sort.object_rest
sort_seen sort.SimpleTarget = Sort.simple_target
sort_seen sort.Target = Sort.target
sort_seen sort.TargetElement = Sort.target_element
sort_seen sort.ObjectTargetRest = Sort.object_target_rest
sort_seen sort.Expression = Sort.expression
sort_seen sort.Object = Sort.object
sort_seen sort.Argument = Sort.argument
sort_seen sort.Property = Sort.property
sort_seen sort.Key = Sort.key
sort_seen sort.ChainElement = Sort.chain_element
sort_seen sort.TemplateText = Sort.template_text
sort_seen sort.TaggedTemplate = Sort.tagged_template

abbrev pub place_seen : code_place.Place → Place
place_seen (place.One s) = Place.one (sort_seen s)
place_seen (place.Optional s) = Place.optional (sort_seen s)
place_seen place.Nothing = Place.nothing
place_seen (place.Many s) = Place.many (sort_seen s)
place_seen (place.Some s) = Place.some (sort_seen s)
place_seen (place.Single s) = Place.single (sort_seen s)
place_seen (place.Several s) = Place.several (sort_seen s)
place_seen (place.Spaced s) = Place.spaced (sort_seen s)
place_seen (place.OptionalList s) = Place.optional_list (sort_seen s)
place_seen place.Nowhere = Place.nowhere

abbrev pub places_seen : code_places.PlaceList → List Place
places_seen places.Zero = []
places_seen (places.One p) = place_seen p ∷ []
places_seen (places.Two p q) = place_seen p ∷ place_seen q ∷ []
places_seen (places.Three p q r) = place_seen p ∷ place_seen q ∷ place_seen r ∷ []
places_seen (places.Four p q r s) = place_seen p ∷ place_seen q ∷ place_seen r ∷ place_seen s ∷ []
