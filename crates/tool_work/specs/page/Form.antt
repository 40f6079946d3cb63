-- how what a desk holds is written: a list of texts in JSON, or an item of a list in HTML (this project's profile)
use Rattle.std.specs.Prelude.{ℕ, List, ◌++◌, codes}
use Rattle.tool_work.specs.declared.page.form.Form.{Form}
use Rattle.tool_work.specs.declared.page.form.Form.TheVariants.{Data, Item}

abbrev pub begin_of : Form → List ℕ
begin_of Data = codes "[\""
begin_of Item = codes "<li>"

abbrev pub colon_of : Form → List ℕ
colon_of Data = codes "\",\""
colon_of Item = codes ": "

abbrev pub gap_of : Form → List ℕ
gap_of Data = codes "\",\""
gap_of Item = codes " "

abbrev pub end_of : Form → List ℕ
end_of Data = codes "\"],\n"
end_of Item = codes "</li>\n"

-- this is so of that
abbrev pub fact : Form → List ℕ → List ℕ → List ℕ
fact f of is = begin_of f ++ of ++ colon_of f ++ is ++ end_of f
