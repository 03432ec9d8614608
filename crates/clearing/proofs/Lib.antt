-- Laws of the publication.
pub mod SumLaws
pub mod WorthLaws
pub mod HoursLaws
pub mod PublishLaws
pub mod PublishableLaws
pub mod FrontLaws
pub mod StepSizes
