-- What is asked of a statement, and which postings it lists.
use Rattle.std.specs.Prelude.{ℕ, Bool, true, false, ◌&&◌, List, Option, Some, None}
use Rattle.std.specs.Str.{bytes_eq}
use Rattle.walked_rows.specs.declared.stated.StatedPosting.{StatedPosting}
use Rattle.report_contents.specs.declared.query.Layout.TheVariants.{Columns}
use Rattle.report_contents.specs.declared.query.Query.{Query}
use Rattle.report_contents.specs.declared.query.Selection.{Selection}
use Rattle.report_contents.specs.declared.range.Range.{Range}
use Rattle.report_contents.specs.Ranges.{is_within}

-- the posting was made in the range, if there is one
abbrev pub is_in : Option Range → StatedPosting → Bool
is_in None s = true
is_in (Some range) s = is_within range s

-- the reference is the one that is asked for, if one is
abbrev pub has_reference : (wanted own : Option (List ℕ)) → Bool
has_reference None own = true
has_reference (Some wanted) None = false
has_reference (Some wanted) (Some own) = bytes_eq wanted own

-- the posting is among those that are asked for
abbrev pub is_selected : Selection → StatedPosting → Bool
is_selected selection s = is_in selection.range s && has_reference selection.reference s.reference

-- all postings, in columns
abbrev pub whole_query : Query
whole_query = record { selection = record { range = None; reference = None }; layout = Columns }
