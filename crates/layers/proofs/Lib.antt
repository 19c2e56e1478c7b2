pub mod IntersectionLaws
pub mod WindowLaws
