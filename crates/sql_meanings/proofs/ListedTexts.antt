-- What unfolds where a text is tested for the list of the schema's objects.
use lib.Ieee.{is_nan, lt}

-- the tests of a name and of how a text begins
unfoldable pub listing_tests : Unit {0}
unfolding
    Rattle.sqlite_trees.specs.Sound.fits_kind Rattle.sqlite_trees.specs.Sound.is_free_name
    Rattle.sqlite_trees.specs.Sound.same_name
    Rattle.sqlite_trees.specs.Sound.begins Rattle.sqlite_value.specs.Order.value_cmp is_nan lt
listing_tests = tt
