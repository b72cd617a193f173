-- The listing of files one after the other.
use Rattle.std.proofs.Common.{ℕ, zero, suc, ◌≡◌, ◌+◌, ◌<◌, ◌≤◌, List, [], ◌++◌, Option, None, Some, false, refl, sym, ◌∙◌, ap, arith, add_assoc, add-suc, add-zero, append_assoc, append-nil, length, length-append, take, drop}
use Rattle.std.specs.Prelude.{codes, decimal}
use Rattle.std.specs.List.{flat_map}
use Rattle.std.specs.Option.{option_map, option_map_or}
use Rattle.std.proofs.Math.Path.{ap₂}
use Rattle.std.proofs.lemmas.List.{get_or_append_left, get_or-append-add, get_or-drop, get_or-take}
use Rattle.lx_piece.specs.Plans.{PlainInput, Planned, files_of, input_of}
use Rattle.lx_forms.specs.Forms.{PlainForm, name_of}
use Rattle.lx_forms.specs.TextLines.{name_escaped}
use Rattle.lx_forms.specs.JsonLines.{bytes_member}
use Rattle.lx_forms.specs.FormLaws.{IsJoined, form_behind, form_of_front}
use Rattle.lx_forms.specs.FormListings.{file_lines_in, listing_to_in, listing_in}
use Rattle.lx_forms.proofs.Alike.{IsSameFile, PrintsAlike, file_same}

-- the name of one of the first files, this many
front_name : (names : Option (List (List ℕ))) (shown : List ℕ → List ℕ) (number : List ℕ) (count file : ℕ) → file < count →
    option_map_or (λ ns. shown (name_of ns file)) names number ≡ option_map_or (λ ns. shown (name_of ns file)) (option_map (take count) names) number
front_name None shown number count file l = refl
front_name (Some ns) shown number count file l = ap shown (sym (get_or-take count ns file [] l))

-- the name of a file after the first ones
name_behind : (names : Option (List (List ℕ))) (shown : List ℕ → List ℕ) (number : List ℕ) (count file : ℕ) →
    option_map_or (λ ns. shown (name_of ns (count + file))) names number ≡ option_map_or (λ ns. shown (name_of ns file)) (option_map (drop count) names) number
name_behind None shown number count file = refl
name_behind (Some ns) shown number count file = ap shown (sym (get_or-drop count ns file []))

front_alike : (form : PlainForm) (count file : ℕ) → file < count → PrintsAlike form file (form_of_front form count) file
front_alike form count file l =
    let number = decimal (form.first + file) in
    record {
      text = front_name form.names (λ name. flat_map name_escaped name) number count file l;
      members = ap (λ (bytes : List ℕ). codes "{\"file\":" ++ number ++ bytes) (front_name form.names (λ name. bytes_member (codes ",\"name\":") (codes ",\"name_hex\":") name) [] count file l);
      only = refl;
      texts = refl;
      format = refl;
    }

behind_alike : (form : PlainForm) (count file : ℕ) → PrintsAlike form (count + file) (form_behind form count) file
behind_alike form count file =
    let e : form.first + (count + file) ≡ (form.first + count) + file = sym (add_assoc form.first count file) in
    let rest = form_behind form count in
    record {
      text = ap (λ (n : ℕ). option_map_or (λ ns. flat_map name_escaped (name_of ns (count + file))) form.names (decimal n)) e
          ∙ name_behind form.names (λ name. flat_map name_escaped name) (decimal ((form.first + count) + file)) count file;
      members = ap₂ (λ (n : ℕ) (bytes : List ℕ). codes "{\"file\":" ++ decimal n ++ bytes) e
          (name_behind form.names (λ name. bytes_member (codes ",\"name\":") (codes ",\"name_hex\":") name) [] count file);
      only = refl;
      texts = refl;
      format = refl;
    }

front_file : (front rest whole : Planned) (file : ℕ) → IsJoined front rest whole → file < files_of front → IsSameFile whole file front file
front_file front rest whole file joined l =
    let end : PlainInput = record { bytes = []; cut = false } in
    record {
      table = sym joined.front_table;
      input = ap (λ (inputs : List PlainInput). input_of (record whole { inputs = inputs }) file) joined.inputs ∙ get_or_append_left front.inputs rest.inputs end file l;
    }

file_behind : (front rest whole : Planned) (file : ℕ) → IsJoined front rest whole → IsSameFile whole (files_of front + file) rest file
file_behind front rest whole file joined =
    let end : PlainInput = record { bytes = []; cut = false } in
    record {
      table = sym joined.rest_table;
      input = ap (λ (inputs : List PlainInput). input_of (record whole { inputs = inputs }) (files_of front + file)) joined.inputs ∙ get_or-append-add front.inputs rest.inputs file end;
    }

front_listing : (form : PlainForm) (front rest whole : Planned) (count : ℕ) → IsJoined front rest whole → count ≤ files_of front →
    listing_to_in form whole count ≡ listing_to_in (form_of_front form (files_of front)) front count
front_listing form front rest whole zero joined l = refl
front_listing form front rest whole (suc file) joined l =
    let within : file < files_of front = omega arith in
    ap₂ (λ (xs ys : List ℕ). xs ++ ys) (front_listing form front rest whole file joined (omega arith))
    (file_same form (form_of_front form (files_of front)) whole front file file (front_alike form (files_of front) file within) (front_file front rest whole file joined within))

rest_listing : (form : PlainForm) (front rest whole : Planned) (count : ℕ) → IsJoined front rest whole →
    listing_to_in form whole (files_of front + count) ≡ listing_to_in form whole (files_of front) ++ listing_to_in (form_behind form (files_of front)) rest count
rest_listing form front rest whole zero joined =
    ap (λ (n : ℕ). listing_to_in form whole n) (add-zero (files_of front)) ∙ sym (append-nil (listing_to_in form whole (files_of front)))
rest_listing form front rest whole (suc file) joined =
    let n = files_of front in
    let more = form_behind form n in
    ap (λ (m : ℕ). listing_to_in form whole m) (add-suc n file)
    ∙ ap₂ (λ (xs ys : List ℕ). xs ++ ys) (rest_listing form front rest whole file joined)
    (file_same form more whole rest (n + file) file (behind_alike form n file) (file_behind front rest whole file joined))
    ∙ append_assoc (listing_to_in form whole n) (listing_to_in more rest file) (file_lines_in more rest file)

pub joined_is : (form : PlainForm) (front rest whole : Planned) → IsJoined front rest whole →
    listing_in form whole ≡ listing_in (form_of_front form (files_of front)) front ++ listing_in (form_behind form (files_of front)) rest
joined_is form front rest whole joined =
    let files : files_of whole ≡ files_of front + files_of rest = ap length joined.inputs ∙ length-append front.inputs rest.inputs in
    ap (λ (n : ℕ). listing_to_in form whole n) files
    ∙ rest_listing form front rest whole (files_of rest) joined
    ∙ ap (λ bytes. bytes ++ listing_in (form_behind form (files_of front)) rest) (front_listing form front rest whole (files_of front) joined (omega arith))
