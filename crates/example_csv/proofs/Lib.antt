pub mod BuilderLemmas
pub mod ConvertLemmas
pub mod FieldLemmas
pub mod GroupLemmas
pub mod ReadLemmas
pub mod SelectLemmas
pub mod SummaryLemmas
pub mod TableLemmas
